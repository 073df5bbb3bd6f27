-- The rules of a claim, but for the one that is judged at the token behind it: how many levels a waiting-for has.
use Rattle.std.proofs.Common.{◌≡◌, ℕ, ◌+◌, Bool, false, not, List, ◌++◌, length, Ok, Err, refl, sym, ap, ◌∙◌, arith, append_assoc, append-nil}
use Rattle.std.specs.Prelude.{nat_eq}
use Rattle.st_tokens.specs.Stream.{Stream}
use Rattle.st_reading.specs.Reading.{Read, ◌>>=◌, ahead, refusal, gives, then_reads}
use Rattle.st_reading.specs.Rule as rules
use Rattle.st_reading.specs.Breaches.{Breach, Reader, broke, crowded}
use Rattle.st_reading.specs.BrokenRules.{Broken}
use Rattle.temporal_goals.specs.Texts.{PlainGoal, PlainRule}
use Rattle.proof_script.specs.Listing.{Setting}
use Rattle.proof_script.specs.Steps.{ends_rule, is_invariance}
use Rattle.script_grammar.specs.RawScripts.{RawClaim, raw_invariance, raw_waiting, raw_response, raw_levels, raw_wait_diagram}
use Rattle.script_grammar.specs.Sizes.{claim_size, marked_size, unit_size}
use Rattle.script_grammar.specs.Meaning.{claim_meant}
use Rattle.script_grammar.specs.Breaking.{broken_where, listed_rules}
use Rattle.script_grammar.specs.Rules.{claim_rules, form_rules}
use Rattle.script_grammar.proofs.CompletedItems.{Pending}
use Rattle.script_grammar.proofs.EndedClaims.{guarded, unguarded}

abbrev pub Claimed : Type 0
Claimed = PlainGoal × PlainRule

-- another number of levels than of formulas
abbrev pub wrong_count : RawClaim → Bool
wrong_count (raw_invariance p f) = false
wrong_count (raw_waiting p qs place (raw_levels ls)) = not (nat_eq (length ls) (length qs))
wrong_count (raw_waiting p qs place (raw_wait_diagram d)) = false
wrong_count (raw_response p q e r) = false

abbrev pub count_breach : RawClaim → Breach
count_breach (raw_invariance p f) = crowded 0
count_breach (raw_waiting p qs place r) = broke rules.WrongCount place
count_breach (raw_response p q e r) = crowded 0

abbrev pub uncounted : Claimed → Pending Claimed
uncounted c = record { wrong = false; breach = crowded 0; item = c }

module _ (g : Setting) where
  abbrev pub own_claim_rules : ℕ → RawClaim → List (Broken Breach)
  own_claim_rules at (raw_invariance p f) = claim_rules g at (raw_invariance p f)
  own_claim_rules at (raw_waiting p qs place (raw_levels ls)) =
      form_rules g at p ++ (listed_rules (λ q. q) unit_size (form_rules g) 0 (at + p.size) qs ++ listed_rules (λ q. q) unit_size (form_rules g) 0 (at + p.size + marked_size unit_size qs) ls)
  own_claim_rules at (raw_waiting p qs place (raw_wait_diagram d)) = claim_rules g at (raw_waiting p qs place (raw_wait_diagram d))
  own_claim_rules at (raw_response p q e r) = claim_rules g at (raw_response p q e r)

  pub claim_ruled : (at : ℕ) (x : RawClaim) → claim_rules g at x ≡ own_claim_rules at x ++ broken_where (wrong_count x) (at + claim_size x + 1) (count_breach x)
  claim_ruled at (raw_invariance p f) = sym (append-nil (claim_rules g at (raw_invariance p f)))
  claim_ruled at (raw_waiting p qs place (raw_levels ls)) =
      let first = form_rules g at p in
      let second = listed_rules (λ q. q) unit_size (form_rules g) 0 (at + p.size) qs in
      let third = listed_rules (λ q. q) unit_size (form_rules g) 0 (at + p.size + marked_size unit_size qs) ls in
      let last : ℕ → List (Broken Breach) = λ n. broken_where (not (nat_eq (length ls) (length qs))) n (broke rules.WrongCount place) in
      let e : at + p.size + marked_size unit_size qs + marked_size unit_size ls + 1 ≡ at + claim_size (raw_waiting p qs place (raw_levels ls)) + 1 = omega arith in
      ap (λ n. first ++ (second ++ (third ++ last n))) e ∙ ap (λ z. first ++ z) (sym (append_assoc second third (last (at + claim_size (raw_waiting p qs place (raw_levels ls)) + 1))))
      ∙ sym (append_assoc first (second ++ third) (last (at + claim_size (raw_waiting p qs place (raw_levels ls)) + 1)))
  claim_ruled at (raw_waiting p qs place (raw_wait_diagram d)) = sym (append-nil (claim_rules g at (raw_waiting p qs place (raw_wait_diagram d))))
  claim_ruled at (raw_response p q e r) = sym (append-nil (claim_rules g at (raw_response p q e r)))

  -- what was read: whether its levels are another number, and whether it is an invariance
  abbrev pub FitsClaim : RawClaim → Pending Claimed → Type 0
  FitsClaim x c = (c.wrong ≡ wrong_count x) × (c.breach ≡ count_breach x) × (is_invariance c.item.0 ≡ is_invariance (claim_meant g x).0)

-- a claim without levels
abbrev pub without_levels : Reader Claimed → Reader (Pending Claimed)
without_levels r = then_reads r (λ c. gives (uncounted c))

module _ {A : Type 0} (r : Reader Claimed) (ended : Claimed → Reader A) (refuses : (c : Claimed) (s : Stream) → ends_rule (ahead s) ≡ false → ended c s ≡ Err (refusal s)) where
  pub uncounted_same : (s : Stream) → then_reads r ended s ≡ then_reads (without_levels r) (λ q. guarded q.wrong q.breach (ended q.item)) s
  uncounted_same s = at_read (r s)
    where
      at_read : (o : Read Breach Claimed) → (o >>= λ c. ended c.0 c.1) ≡ ((o >>= λ c. gives {X = Breach} (uncounted c.0) c.1) >>= λ q. guarded q.0.wrong q.0.breach (ended q.0.item) q.1)
      at_read (Ok c) = sym (unguarded (crowded 0) (ended c.0) (λ m e. refuses c.0 m e) c.1)
      at_read (Err f) = refl
