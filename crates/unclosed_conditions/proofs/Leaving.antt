-- A list of open conditions is gone through, and some are left out.
use Rattle.std.proofs.Common.{◌≡◌, ◌∙◌, ℕ, Bool, true, false, List, [], ◌∷◌, ◌++◌, map, length, refl, ap, sym, subst, arith}
use Rattle.std.specs.Prelude.{Option, Some, None, IfSome, is_some, slice_get, if◌then◌else◌}
use Rattle.std.proofs.lemmas.List.{map-append, append-nil}
use Rattle.st_form.specs.Shared.{given_of, shown_of}
use Rattle.st_form.specs.declared.conditions.Condition.{Condition}
use Rattle.st_certificate.specs.declared.Certificate.{Certificate}
use Rattle.st_certificate.specs.Plain.{plain as tree_of}
use Rattle.farkas_check.specs.Limits.{IsLimited}
use Rattle.farkas_check.specs.Problem.{Setting}
use Rattle.farkas_check.specs.Valid.{IsCertificate}
use Rattle.discharge.specs.declared.marks.Undecided.{Undecided}
use Rattle.discharge.specs.Marked.{IsUndecided, place_of}
use Rattle.open_conditions.specs.Open.{AreOpen}
use Rattle.unclosed_conditions.specs.Unclosed.{IsClosed, LeavesOut, end, keeps, leaves}

pub empty : (us : List Undecided) → length us ≡ 0 → us ≡ []
empty [] none = refl
empty (u ∷ us) none = absurd (omega (arith, none))

module _ (k : Setting) (cs : List Condition) where
  -- these are kept so far of the whole, and the rest is to be gone through
  abbrev pub IsOnWay : List ℕ → List Undecided → List Undecided → Type 0
  IsOnWay whole kept rest = (later : List ℕ) → LeavesOut k cs (map place_of rest) later → LeavesOut k cs whole (map place_of kept ++ later)

  -- a condition that is kept, or left out
  abbrev pub with_next : Bool → List Undecided → Undecided → List Undecided
  with_next closed kept u = if closed then kept else kept ++ u ∷ []

  append-assoc : (ms ns os : List ℕ) → (ms ++ ns) ++ os ≡ ms ++ (ns ++ os)
  append-assoc [] ns os = refl
  append-assoc (m ∷ ms) ns os = ap (λ (l : List ℕ). m ∷ l) (append-assoc ms ns os)

  pub goes-on : (closed : Bool) (whole : List ℕ) (kept rest : List Undecided) (u : Undecided) → (closed ≡ true → IsClosed k cs (place_of u)) → IsOnWay whole kept (u ∷ rest)
      → IsOnWay whole (with_next closed kept u) rest
  goes-on true whole kept rest u is way later left = way later (leaves (place_of u) (map place_of rest) later (is refl) left)
  goes-on false whole kept rest u is way later left =
      let same : map place_of (kept ++ u ∷ []) ++ later ≡ map place_of kept ++ (place_of u ∷ later) =
      ap (λ (l : List ℕ). l ++ later) (map-append place_of kept (u ∷ [])) ∙ append-assoc (map place_of kept) (place_of u ∷ []) later in
      subst (LeavesOut k cs whole) (sym same) (way (place_of u ∷ later) (keeps (place_of u) (map place_of rest) later left))

  open-more : (us : List Undecided) (u : Undecided) → AreOpen k cs us → IsUndecided k cs u → AreOpen k cs (us ++ u ∷ [])
  open-more [] u all is = (is, tt)
  open-more (v ∷ us) u all is = (all.0, open-more us u all.1 is)

  pub right-on : (closed : Bool) (kept : List Undecided) (u : Undecided) → AreOpen k cs kept → IsUndecided k cs u → AreOpen k cs (with_next closed kept u)
  right-on true kept u all is = all
  right-on false kept u all is = open-more kept u all is

  -- nothing is left to be gone through
  pub at-end : (whole : List ℕ) (kept : List Undecided) → IsOnWay whole kept [] → LeavesOut k cs whole (map place_of kept)
  at-end whole kept way = subst (LeavesOut k cs whole) (append-nil (map place_of kept)) (way [] end)

  -- a certificate that was found closes the condition
  pub found-closed : (place : ℕ) (c : Condition) (o : Option Certificate) → slice_get cs place ≡ Some c → IfSome o (λ x. IsCertificate k (given_of c) (shown_of c) (tree_of x))
      → IfSome o (λ x. IsLimited (tree_of x)) → (b : Bool) → b ≡ is_some o → b ≡ true → IsClosed k cs place
  found-closed place c None there valid limited b same holds = let e : false ≡ true = sym same ∙ holds in absurd (cc)
  found-closed place c (Some x) there valid limited b same holds = record { condition = c; there = there; certificate = tree_of x; valid = valid; limited = limited }
