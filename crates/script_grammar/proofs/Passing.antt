-- The token at which reading within some levels breaks off for its nesting.
use Rattle.std.proofs.Common.{◌≡◌, ℕ, zero, suc, ◌+◌, ◌≤◌, Bool, true, List, [], ◌∷◌, ◌++◌, length, Option, Some, None, Ok, Err, inl, inr, refl, sym, ap, ◌∙◌, arith, append_assoc, append-nil}
use Rattle.std.specs.Prelude.{Result}
use Rattle.std.specs.Option.{option_map}
use Rattle.st_tokens.specs.declared.limit.LimitKind.{LimitKind}
use Rattle.st_tokens.specs.Stream.{◌++>◌, Lexeme, Stream, ends, breaks, more}
use Rattle.st_reading.specs.declared.sign.Sign.{Sign}
use Rattle.st_reading.specs.declared.sign.Sign.TheVariants as signs
use Rattle.st_reading.specs.Faults.{Passed, passed}
use Rattle.st_reading.specs.Reading.{Stop, syntax, broken, other, Read, refusal}
use Rattle.st_reading.specs.Steady.{head, SteadyAt, Viable}
use Rattle.st_reading.proofs.Streams.{append_stream, more_parts}
use Rattle.st_reading.proofs.Stops.{Compared, shorter, longer, compare}
use Rattle.expression_parser.specs.ExpressionTree.{Expr}
use Rattle.expression_parser.specs.Calm.{calm}
use Rattle.expression_parser.proofs.FormulaTheorems.{quiet}
use Rattle.expression_parser.proofs.ExpressionLaw.{larger}
use Rattle.script_grammar.specs.Nesting.{broken_off, one_further, first_passing}
use Rattle.script_grammar.proofs.Unlimited.{Passes, Comes, reads, refuses, passes, comes}

-- THE FIRST THAT PASSES
-- these tokens end with the first up to which a place is named
pub record Least (test : List Lexeme → Option ℕ) (ts : List Lexeme) (place : ℕ) : Type 0 where
  pub before : List Lexeme
  pub token : Lexeme
  pub after : List Lexeme
  pub is_cut : ts ≡ before ++ token ∷ after
  pub names : test (before ++ token ∷ []) ≡ Some place
  pub least : (a : List Lexeme) (u : Lexeme) (b : List Lexeme) → before ≡ a ++ u ∷ b → test (a ++ u ∷ []) ≡ None
  pub told : (others : List Lexeme) → first_passing test (before ++ token ∷ others) ≡ Some (suc (length before), place)

pub record Least_place (test : List Lexeme → Option ℕ) (ts : List Lexeme) : Type 0 where
  pub place : ℕ
  pub it : Least test ts place

cons_parts : (t u : Lexeme) (a b : List Lexeme) → t ∷ a ≡ u ∷ b → (t ≡ u) × (a ≡ b)
cons_parts t u a b h = (cc, cc)

further_least : (test : List Lexeme → Option ℕ) (t : Lexeme) (ts : List Lexeme) → test (t ∷ []) ≡ None → Least_place (λ us. test (t ∷ us)) ts → Least_place test (t ∷ ts)
further_least test t ts none l = record {
  place = l.place;
  it = record {
    before = t ∷ l.it.before;
    token = l.it.token;
    after = l.it.after;
    is_cut = ap (λ (z : List Lexeme). t ∷ z) l.it.is_cut;
    names = l.it.names;
    least = least_so;
    told = λ others. let e = l.it.told others in rw (none, e) refl;
  };
}
  where
    least_so : (a : List Lexeme) (u : Lexeme) (b : List Lexeme) → t ∷ l.it.before ≡ a ++ u ∷ b → test (a ++ u ∷ []) ≡ None
    least_so [] u b h = let p = cons_parts t u l.it.before b h in ap (λ v. test (v ∷ [])) (sym p.0) ∙ none
    least_so (v ∷ a) u b h = let p = cons_parts t v l.it.before (a ++ u ∷ b) h in ap (λ w. test (w ∷ a ++ u ∷ [])) (sym p.0) ∙ l.it.least a u b p.1

least_here : (test : List Lexeme → Option ℕ) (t : Lexeme) (us : List Lexeme) (p : ℕ) → test (t ∷ []) ≡ Some p → Least_place test (t ∷ us)
least_here test t us p e = record { place = p; it = record { before = []; token = t; after = us; is_cut = refl; names = e; least = none_shorter; told = λ others. rw e refl } }
  where
    none_shorter : (a : List Lexeme) (u : Lexeme) (b : List Lexeme) → [] ≡ a ++ u ∷ b → test (a ++ u ∷ []) ≡ None
    none_shorter [] u b h = absurd cc
    none_shorter (v ∷ a) u b h = absurd cc

pub find_least : (test : List Lexeme → Option ℕ) (t : Lexeme) (ts : List Lexeme) (place : ℕ) → test (t ∷ ts) ≡ Some place → Least_place test (t ∷ ts)
find_least test t [] place h = least_here test t [] place h
find_least test t (u ∷ us) place h = at_first (test (t ∷ [])) refl (find_least (λ vs. test (t ∷ vs)) u us place h)
  where
    at_first : (o : Option ℕ) → test (t ∷ []) ≡ o → Least_place (λ vs. test (t ∷ vs)) (u ∷ us) → Least_place test (t ∷ u ∷ us)
    at_first (Some p) e again = least_here test t (u ∷ us) p e
    at_first None e again = further_least test t (u ∷ us) e again

-- where none is named up to any token, there is no first
pub none_passes : (test : List Lexeme → Option ℕ) (ts : List Lexeme) → ((a : List Lexeme) (u : Lexeme) (b : List Lexeme) → ts ≡ a ++ u ∷ b → test (a ++ u ∷ []) ≡ None) → first_passing test ts ≡ None
none_passes test [] h = refl
none_passes test (t ∷ ts) h =
    let e : test (t ∷ []) ≡ None = h [] t ts refl in
    let later : first_passing (λ us. test (t ∷ us)) ts ≡ None = none_passes (λ us. test (t ∷ us)) ts (λ a u b k. h (t ∷ a) u b (ap (λ (z : List Lexeme). t ∷ z) k)) in
    rw (e, later) refl

-- READERS
refusal_none : (s : Stream) → broken_off (Err (refusal s)) ≡ None
refusal_none (ends p) = refl
refusal_none (breaks f) = refl
refusal_none (more t s) = refl

no_place : (place : ℕ) (o : Option ℕ) → o ≡ None → o ≡ Some place → ⊥
no_place place o h k = cc

module _ (reader : ℕ → Stream → Read Passed Expr) (law : (n : ℕ) (s : Stream) → SteadyAt calm calm (reader n) (λ i. reader (larger n i)) s) (n : ℕ) where
  abbrev pub test : List Lexeme → Option ℕ
  test ts = broken_off (reader n (ts ++> ends 0))

  -- reading breaks off before these tokens are read, whatever follows
  pub record Breaks (ts : List Lexeme) (place : ℕ) : Type 0 where
    pub kind : LimitKind
    pub it : Passes calm calm quiet reader law n (ts ++> ends 0)
    pub last : List Lexeme
    pub is_part : ts ≡ (it.before ++ it.passing ∷ []) ++ last
    pub names : it.limit ≡ passed kind place

  pub breaks_off : (ts : List Lexeme) (place : ℕ) → test ts ≡ Some place → Breaks ts place
  breaks_off ts place h = at_comes (comes calm calm quiet reader law n (ts ++> ends 0))
    where
      at_limit : (x : Passed) → broken_off (Err (other x)) ≡ Some place → (kind : LimitKind) × (x ≡ passed kind place)
      at_limit (passed kind p) e = (kind, ap (λ z. passed kind z) (let k : p ≡ place = cc in k))

      part : (q : Passes calm calm quiet reader law n (ts ++> ends 0)) → Compared ts q.before (ends 0) (more q.passing q.after) → (last : List Lexeme) × (ts ≡ (q.before ++ q.passing ∷ []) ++ last)
      part q (shorter [] e k) = absurd cc
      part q (shorter (u ∷ c) e k) = absurd cc
      part q (longer u c e k) = let m = more_parts q.passing u q.after (c ++> ends 0) k in (c, e ∙ ap (λ v. q.before ++ v ∷ c) (sym m.0) ∙ sym (append_assoc q.before (q.passing ∷ []) c))

      at_comes : Comes calm calm quiet reader law n (ts ++> ends 0) → Breaks ts place
      at_comes (reads us x rest is go1 go2) = let e : reader n (ts ++> ends 0) ≡ Ok (x, rest) = ap (reader n) is ∙ go1 rest (inl refl) in absurd (no_place place (test ts) (ap broken_off e) h)
      at_comes (refuses us rest is no1 no2 v) = let e : reader n (ts ++> ends 0) ≡ Err (refusal rest) = ap (reader n) is ∙ no1 rest refl in absurd (no_place place (test ts) (ap broken_off e ∙ refusal_none rest) h)
      at_comes (passes q) =
          let e : reader n (ts ++> ends 0) ≡ Err (other q.limit) = ap (reader n) q.is_cut ∙ q.stuck q.after in
          let l = at_limit q.limit (sym (ap broken_off e) ∙ h) in
          let p = part q (compare ts q.before (ends 0) (more q.passing q.after) q.is_cut) in
          record { kind = l.0; it = q; last = p.0; is_part = p.1; names = l.1 }

  -- so nothing that begins so is read
  pub unread : (ts : List Lexeme) (place : ℕ) (b : Breaks ts place) (after : Stream) → reader n (ts ++> after) ≡ Err (other (passed b.kind place))
  unread ts place b after =
      ap (λ (z : List Lexeme). reader n (z ++> after)) b.is_part
      ∙ ap (reader n) (append_stream (b.it.before ++ b.it.passing ∷ []) b.last after ∙ append_stream b.it.before (b.it.passing ∷ []) (b.last ++> after))
      ∙ b.it.stuck (b.last ++> after)
      ∙ ap (λ x. Err (other x)) b.names

  -- what is read passes nowhere
  pub read_passes_none : (ts : List Lexeme) (x : Expr) (rest : Stream) → reader n (ts ++> rest) ≡ Ok (x, rest) → first_passing test ts ≡ None
  read_passes_none ts x rest h = none_passes test ts (λ a u b e. at_test a u b e (test (a ++ u ∷ [])) refl)
    where
      at_test : (a : List Lexeme) (u : Lexeme) (b : List Lexeme) → ts ≡ a ++ u ∷ b → (o : Option ℕ) → test (a ++ u ∷ []) ≡ o → o ≡ None
      at_test a u b e None k = refl
      at_test a u b e (Some place) k =
          let stop = breaks_off (a ++ u ∷ []) place k in
          let same : ts ++> rest ≡ (a ++ u ∷ []) ++> (b ++> rest) = ap (λ (z : List Lexeme). z ++> rest) (e ∙ sym (append_assoc a (u ∷ []) b)) ∙ append_stream (a ++ u ∷ []) b rest in
          let bad : reader n (ts ++> rest) ≡ Err (other (passed stop.kind place)) = ap (reader n) same ∙ unread (a ++ u ∷ []) place stop (b ++> rest) in
          absurd cc
