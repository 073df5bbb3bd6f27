-- Formulas and integer expressions, judged as wholes, beside the reader that doesn't judge: first their levels, and then their types.
use Rattle.std.proofs.Common.{◌≡◌, ℕ, suc, ◌+◌, ◌≤◌, Bool, true, false, List, [], ◌∷◌, ◌++◌, length, length-append, Option, Some, None, Result, Ok, Err, inl, inr, refl, sym, ap, subst, ◌∙◌, arith, append_assoc, append-nil}
use Rattle.st_tokens.specs.declared.limit.LimitKind.{LimitKind}
use Rattle.st_tokens.specs.declared.limit.LimitKind.TheVariants as limits
use Rattle.st_tokens.specs.Stream.{◌++>◌, Lexeme, Stream, ends, breaks, more}
use Rattle.st_reading.specs.Faults.{Passed, passed}
use Rattle.st_reading.specs.Reading.{Stop, syntax, other, Read, ahead, refusal}
use Rattle.st_reading.specs.Breaches.{Breach, Reader, limited}
use Rattle.st_reading.specs.BrokenRules.{Broken}
use Rattle.st_reading.specs.Steady.{head, Follows, Viable, SteadyAt, both, stops}
use Rattle.st_reading.proofs.Streams.{append_stream, same_cut}
use Rattle.st_reading.proofs.Spelled.{none_spelled}
use Rattle.st_reading.proofs.Soundness.{values}
use Rattle.st_reading.proofs.Stops.{Compared, shorter, longer, compare}
use Rattle.st_reading.proofs.Judging.{Settled, closed, Completed, JudgedAt, good, bad, alike}
use Rattle.expression_parser.specs.ExpressionTree.{Expr}
use Rattle.expression_parser.specs.Calm.{calm}
use Rattle.expression_parser.proofs.ExpressionLaw.{larger}
use Rattle.expression_parser.proofs.FormulaTheorems.{quiet}
use Rattle.assertions.specs.Faults.{of_stop}
use Rattle.script_grammar.specs.RawScripts.{RawUnit}
use Rattle.script_grammar.specs.Nesting.{broken_off, first_passing}
use Rattle.script_grammar.specs.Breaking.{found_at, nesting_rules}
use Rattle.script_grammar.specs.FirstFaults.{IsSyntactic}
use Rattle.script_grammar.proofs.JudgedReferences.{closed_settles, refusal_syntactic, said}
use Rattle.script_grammar.proofs.Unlimited.{Passes, Comes, reads, refuses, passes, comes, unlimited_law, read_so, refused_so, large_enough, passed_on}
use Rattle.script_grammar.proofs.Greedy.{not_both}
use Rattle.script_grammar.proofs.Passing.{Least, Least_place, find_least, Breaks, breaks_off, unread, read_passes_none}
use Rattle.script_grammar.proofs.RawUnits.{Expressions, free, raw, the_unit, Back, raw_back, raw_ok, raw_err, raw_viable, same_refusal}
use Rattle.script_grammar.proofs.Onward.{open_to, settled_free, calm_settles, left_so, over_open}

-- the last of these tokens stands behind others
init_cut : (xs : List Lexeme) (t : Lexeme) (b : List Lexeme) (q l : Lexeme) (ls : List Lexeme) → xs ++ t ∷ [] ≡ (b ++ q ∷ []) ++ l ∷ ls → (c : List Lexeme) × (xs ≡ b ++ q ∷ c)
init_cut [] t [] q l ls h = absurd (omega (arith, ap length h))
init_cut (x ∷ xs) t [] q l ls h = (xs, ap (λ v. v ∷ xs) (first_same x q (xs ++ t ∷ []) (l ∷ ls) h))
  where
    first_same : (x q : Lexeme) (a b : List Lexeme) → x ∷ a ≡ q ∷ b → x ≡ q
    first_same x q a b h = cc
init_cut [] t (y ∷ b) q l ls h = absurd (omega (arith, ap length h, length-append (b ++ q ∷ []) (l ∷ ls)))
init_cut (x ∷ xs) t (y ∷ b) q l ls h =
    let again = init_cut xs t b q l ls (rest_same x y (xs ++ t ∷ []) ((b ++ q ∷ []) ++ l ∷ ls) h) in
    (again.0, ap (λ v. v ∷ xs) (head_same x y (xs ++ t ∷ []) ((b ++ q ∷ []) ++ l ∷ ls) h) ∙ ap (λ z. y ∷ z) again.1)
  where
    head_same : (x y : Lexeme) (a b : List Lexeme) → x ∷ a ≡ y ∷ b → x ≡ y
    head_same x y a b h = cc

    rest_same : (x y : Lexeme) (a b : List Lexeme) → x ∷ a ≡ y ∷ b → a ≡ b
    rest_same x y a b h = cc

-- a token behind others, with the first of them apart
pub record Joined (xs : List Lexeme) (t : Lexeme) : Type 0 where
  pub first : Lexeme
  pub others : List Lexeme
  pub is_all : first ∷ others ≡ xs ++ t ∷ []

pub joined : (xs : List Lexeme) (t : Lexeme) → Joined xs t
joined [] t = record { first = t; others = []; is_all = refl }
joined (x ∷ xs) t = record { first = x; others = xs ++ t ∷ []; is_all = refl }

no_place : (o : Option ℕ) (place : ℕ) → o ≡ None → o ≡ Some place → ⊥
no_place o place h k = cc

-- `verdict` says what a unit is judged to be, once it is read within 32 levels, and `later` are the rules that it may break then.
module _ (x : Expressions) {A : Type 0} (verdict : RawUnit → Result A Breach) (judge : Reader A) (judge_ok : (t : Lexeme) (ts : List Lexeme) (e : Expr) (rest : Stream) → x.reader 32 (more t (ts ++> rest)) ≡ Ok (e, rest) → judge (more t (ts ++> rest)) ≡ said (verdict (the_unit (t ∷ ts) e)) rest)
    (judge_err : (s : Stream) (f : Stop Passed) → x.reader 32 s ≡ Err f → judge s ≡ Err (of_stop f)) (later : ℕ → RawUnit → List (Broken Breach)) (kept : (n : ℕ) (u : RawUnit) (a : A) → verdict u ≡ Ok a → later n u ≡ [])
    (broken_so : (n : ℕ) (u : RawUnit) (f : Breach) → verdict u ≡ Err f → later n u ≡ found_at n f ∷ []) where
  abbrev levels : List Lexeme → Option ℕ
  levels ts = broken_off (x.reader 32 (ts ++> ends 0))

  abbrev pub unit_rules : ℕ → RawUnit → List (Broken Breach)
  unit_rules at u = nesting_rules at (first_passing levels u.text) ++ later (at + u.size) u

  abbrev pub Said : RawUnit → A → Type 0
  Said u a = verdict u ≡ Ok a

  abbrev pub JudgedUnit : ℕ → Stream → Type 0
  JudgedUnit at s = JudgedAt IsSyntactic calm at judge (raw x) (λ u. u.size) (unit_rules at) Said s

  module _ (at : ℕ) where
    -- READ
    module _ (t : Lexeme) (ts : List Lexeme) (e : Expr) (rest : Stream) (go1 : (after : Stream) → Follows calm rest after → x.reader 32 ((t ∷ ts) ++> after) ≡ Ok (e, after)) where
      free_reads : (after : Stream) → Follows calm rest after → free x ((t ∷ ts) ++> after) ≡ Ok (e, after)
      free_reads after h = read_so calm calm quiet x.reader x.law 32 ((t ∷ ts) ++> after) e after (go1 after h)

      on_calm : (after : Stream) → calm (ahead after) ≡ true → free x ((t ∷ ts) ++> after) ≡ Ok (e, after)
      on_calm after h = free_reads after (inr h)

      passes_none : first_passing levels (t ∷ ts) ≡ None
      passes_none = read_passes_none x.reader x.law 32 (t ∷ ts) e rest (go1 rest (inl refl))

      abbrev opens : Lexeme → Bool
      opens = open_to x (t ∷ ts) e on_calm

      rest_settled : Settled opens rest
      rest_settled = at_rest rest refl
        where
          at_rest : (m : Stream) → rest ≡ m → Settled opens m
          at_rest (ends q) k = tt
          at_rest (breaks f) k = tt
          at_rest (more d m) k = left_so x (t ∷ ts) e on_calm d (λ z. free_reads (more d z) (inl (ap head (sym k))))

      -- with 32 levels what is settled is read as well
      within_so : (after : Stream) → Settled opens after → x.reader 32 ((t ∷ ts) ++> after) ≡ Ok (e, after)
      within_so after settles = at_comes (comes calm calm quiet x.reader x.law 32 ((t ∷ ts) ++> after))
        where
          read : free x ((t ∷ ts) ++> after) ≡ Ok (e, after)
          read = settled_free x (t ∷ ts) e on_calm after settles

          -- the token that passes stands behind these, so reading went on over it
          beyond : (p : Passes calm calm quiet x.reader x.law 32 ((t ∷ ts) ++> after)) (u : Lexeme) (m : Stream) → after ≡ more u m → (z : Stream) → (p.before ++ p.passing ∷ []) ++> ((passed_on calm calm quiet x.reader x.law 32 ((t ∷ ts) ++> after) p).others ++> ends 0) ≡ (t ∷ ts) ++> more u z → ⊥
          beyond p u m k z same =
              let v = passed_on calm calm quiet x.reader x.law 32 ((t ∷ ts) ++> after) p in
              let one : free x ((t ∷ ts) ++> more u z) ≡ Ok (v.value, ends 0) = ap (free x) (sym same) ∙ v.reads (ends 0) quiet in
              let two : free x ((t ∷ ts) ++> more u z) ≡ Ok (e, more u z) = settled_free x (t ∷ ts) e on_calm (more u z) (subst (Settled opens) k settles) in
              let w = values (free x ((t ∷ ts) ++> more u z)) e v.value (more u z) (ends 0) two one in
              let wrong : more u z ≡ ends 0 = w.1 in
              absurd cc

          passes_not : (p : Passes calm calm quiet x.reader x.law 32 ((t ∷ ts) ++> after)) → Compared p.before (t ∷ ts) (more p.passing p.after) after → ⊥
          passes_not p (shorter [] h k) =
              let v = passed_on calm calm quiet x.reader x.law 32 ((t ∷ ts) ++> after) p in
              beyond p p.passing p.after (sym k) (v.others ++> ends 0) (append_stream p.before (p.passing ∷ []) (v.others ++> ends 0) ∙ ap (λ (z : List Lexeme). z ++> more p.passing (v.others ++> ends 0)) (sym (h ∙ append-nil p.before)))
          passes_not p (shorter (u ∷ c) h k) =
              let m = more_same p.passing u p.after (c ++> after) k in
              let here : (t ∷ ts) ++> rest ≡ p.before ++> more p.passing (c ++> rest) = ap (λ (z : List Lexeme). z ++> rest) h ∙ append_stream p.before (u ∷ c) rest ∙ ap (λ v. p.before ++> more v (c ++> rest)) (sym m) in
              not_both (x.reader 32 ((t ∷ ts) ++> rest)) (e, rest) (other p.limit) (go1 rest (inl refl)) (ap (x.reader 32) here ∙ p.stuck (c ++> rest))
            where
              more_same : (a b : Lexeme) (m n : Stream) → more a m ≡ more b n → a ≡ b
              more_same a b m n h = cc
          passes_not p (longer u c h k) =
              let v = passed_on calm calm quiet x.reader x.law 32 ((t ∷ ts) ++> after) p in
              beyond p u (c ++> more p.passing p.after) k (c ++> more p.passing (v.others ++> ends 0))
              (append_stream p.before (p.passing ∷ []) (v.others ++> ends 0) ∙ ap (λ (z : List Lexeme). z ++> more p.passing (v.others ++> ends 0)) h ∙ append_stream (t ∷ ts) (u ∷ c) (more p.passing (v.others ++> ends 0)))

          at_comes : Comes calm calm quiet x.reader x.law 32 ((t ∷ ts) ++> after) → x.reader 32 ((t ∷ ts) ++> after) ≡ Ok (e, after)
          at_comes (reads us y rest2 is g1 g2) =
              let h : x.reader 32 ((t ∷ ts) ++> after) ≡ Ok (y, rest2) = ap (x.reader 32) is ∙ g1 rest2 (inl refl) in
              let w = values (free x ((t ∷ ts) ++> after)) y e rest2 after (read_so calm calm quiet x.reader x.law 32 ((t ∷ ts) ++> after) y rest2 h) read in
              h ∙ ap (λ z. Ok (z, rest2)) w.0 ∙ ap (λ z. Ok (e, z)) w.1
          at_comes (refuses us rest2 is no1 no2 v) = absurd (not_both (free x ((t ∷ ts) ++> after)) (e, after) (refusal rest2) read (refused_so calm calm quiet x.reader x.law 32 ((t ∷ ts) ++> after) us rest2 is no2))
          at_comes (passes p) = absurd (passes_not p (compare p.before (t ∷ ts) (more p.passing p.after) after (sym p.is_cut)))

      typed_unit : (s : Stream) → s ≡ (t ∷ ts) ++> rest → (v : Result A Breach) → verdict (the_unit (t ∷ ts) e) ≡ v → JudgedUnit at s
      typed_unit s is (Ok a) k =
          good (t ∷ ts) (the_unit (t ∷ ts) e) a rest is
          (λ after h. raw_ok x (t ∷ ts) e after (free_reads after (inl h)))
          (λ after h. judge_ok t ts e after (go1 after (inl h)) ∙ ap (λ z. said z after) k)
          refl (let p = passes_none in rw p (kept (at + length (t ∷ ts)) (the_unit (t ∷ ts) e) a k)) k
      typed_unit s is (Err f) k =
          bad t ts rest (found_at (at + length (t ∷ ts)) f) opens is refl rest_settled
          (λ after h. judge_ok t ts e after (within_so after h) ∙ ap (λ z. said z after) k)
          (λ after u m h r.
          let w = values (raw x ((t ∷ ts) ++> after)) (the_unit (t ∷ ts) e) u after m (raw_ok x (t ∷ ts) e after (settled_free x (t ∷ ts) e on_calm after h)) r in
          ([], ap (unit_rules at) (sym w.0) ∙ (let p = passes_none in rw p (broken_so (at + length (t ∷ ts)) (the_unit (t ∷ ts) e) f k))))
          (record { others = []; spelled = none_spelled; value = the_unit (t ∷ ts) e; reads = λ after h. raw_ok x (t ∷ ts) e after (on_calm after h); settled = λ after h. calm_settles x (t ∷ ts) e on_calm after h })
          (λ d g. let v = raw_viable x ((t ∷ ts) ++ d ∷ []) (over_open x (t ∷ ts) e on_calm d g) in record { others = v.others; spelled = v.spelled; value = v.value; reads = v.reads; settled = λ after h. closed_settles (v.others ++> after) })

    -- TOO MANY LEVELS
    -- the tokens that are read without a limit begin with those that may be read so
    begins_so : (ts us text : List Lexeme) (e v : Expr) (after m : Stream) → free x (ts ++> after) ≡ Ok (e, m) → ts ++> after ≡ text ++> m → free x (ts ++> (us ++> ends 0)) ≡ Ok (v, ends 0) → (c : List Lexeme) × (text ≡ ts ++ c)
    begins_so ts us text e v after m h is h2 = at_compared (compare text ts m after (sym is))
      where
        steady : (z : Stream) → head z ≡ head m → free x (text ++> z) ≡ Ok (e, z)
        steady z k = at_law (unlimited_law calm calm quiet x.reader x.law (ts ++> after))
          where
            at_law : SteadyAt {I = Unit {0}} calm calm (free x) (λ i. free x) (ts ++> after) → free x (text ++> z) ≡ Ok (e, z)
            at_law (stops a f rest is2 same v2 cause) = absurd (not_both (free x (ts ++> after)) (e, m) f h (ap (free x) is2 ∙ same rest refl))
            at_law (both a y rest is2 go go2) =
                let w = values (free x (ts ++> after)) y e rest m (ap (free x) is2 ∙ go rest (inl refl)) h in
                let cut : a ≡ text = same_cut a text m (ap (λ q. a ++> q) (sym w.1) ∙ sym is2 ∙ is) in
                ap (λ (q : List Lexeme). free x (q ++> z)) (sym cut) ∙ go z (inl (k ∙ ap head (sym w.1))) ∙ ap (λ q. Ok (q, z)) w.0

        at_compared : Compared text ts m after → (c : List Lexeme) × (text ≡ ts ++ c)
        at_compared (shorter [] k1 k2) = ([], sym (append-nil text) ∙ sym k1 ∙ sym (append-nil ts))
        at_compared (shorter (u ∷ c) k1 k2) =
            let z : Stream = more u (c ++> (us ++> ends 0)) in
            let same : ts ++> (us ++> ends 0) ≡ text ++> more u (c ++> (us ++> ends 0)) = ap (λ (q : List Lexeme). q ++> (us ++> ends 0)) k1 ∙ append_stream text (u ∷ c) (us ++> ends 0) in
            let w = values (free x (ts ++> (us ++> ends 0))) e v (more u (c ++> (us ++> ends 0))) (ends 0) (ap (free x) same ∙ steady (more u (c ++> (us ++> ends 0))) (sym (ap head k2))) h2 in
            let wrong : more u (c ++> (us ++> ends 0)) ≡ ends 0 = w.1 in
            absurd cc
        at_compared (longer u c k1 k2) = (u ∷ c, k1)

    module _ (s : Stream) (p : Passes calm calm quiet x.reader x.law 32 s) where
      abbrev whole : Joined p.before p.passing
      whole = joined p.before p.passing

      named : (kind : LimitKind) (place : ℕ) → p.limit ≡ passed kind place → levels (whole.first ∷ whole.others) ≡ Some place
      named kind place k =
          ap levels whole.is_all
          ∙ ap broken_off (ap (x.reader 32) (append_stream p.before (p.passing ∷ []) (ends 0)) ∙ p.stuck (ends 0) ∙ ap (λ l. Err (other l)) k)

      module _ (place : ℕ) (l : Least levels (whole.first ∷ whole.others) place) where
        abbrev shortest : List Lexeme
        shortest = l.before ++ l.token ∷ []

        stop : Breaks x.reader x.law 32 (l.before ++ l.token ∷ []) place
        stop = breaks_off x.reader x.law 32 (l.before ++ l.token ∷ []) place l.names

        none_last : stop.last ≡ []
        none_last = at_last stop.last stop.is_part
          where
            at_last : (last : List Lexeme) → l.before ++ l.token ∷ [] ≡ (stop.it.before ++ stop.it.passing ∷ []) ++ last → last ≡ []
            at_last [] k = refl
            at_last (u ∷ us) k =
                let c = init_cut l.before l.token stop.it.before stop.it.passing u us k in
                let none : levels (stop.it.before ++ stop.it.passing ∷ []) ≡ None = l.least stop.it.before stop.it.passing c.0 c.1 in
                let some : levels (stop.it.before ++ stop.it.passing ∷ []) ≡ Some place = ap broken_off (ap (x.reader 32) (append_stream stop.it.before (stop.it.passing ∷ []) (ends 0)) ∙ stop.it.stuck (ends 0) ∙ ap (λ z. Err (other z)) stop.names) in
                absurd (no_place (levels (stop.it.before ++ stop.it.passing ∷ [])) place none some)

        viable : Viable calm calm (free x) (l.before ++ l.token ∷ [])
        viable =
            subst (Viable calm calm (free x)) (sym (stop.is_part ∙ ap (λ (z : List Lexeme). (stop.it.before ++ stop.it.passing ∷ []) ++ z) none_last ∙ append-nil (stop.it.before ++ stop.it.passing ∷ [])))
            (passed_on calm calm quiet x.reader x.law 32 ((l.before ++ l.token ∷ []) ++> ends 0) stop.it)

        abbrev first : Broken Breach
        first = found_at (at + suc (length l.before)) (limited limits.Nesting place)

        told : (after : Stream) (u : RawUnit) (m : Stream) → raw x ((l.before ++ l.token ∷ []) ++> after) ≡ Ok (u, m) → (further : List (Broken Breach)) × (unit_rules at u ≡ first ∷ further)
        told after u m h =
            let b = raw_back x ((l.before ++ l.token ∷ []) ++> after) u m h in
            let c = begins_so (l.before ++ l.token ∷ []) viable.others b.text b.tree viable.value after m b.read b.is_cut (viable.reads (ends 0) quiet) in
            let text : b.text ≡ l.before ++ l.token ∷ c.0 = c.1 ∙ append_assoc l.before (l.token ∷ []) c.0 in
            let passing : first_passing levels b.text ≡ Some (suc (length l.before), place) = ap (first_passing levels) text ∙ l.told c.0 in
            (later (at + length b.text) (the_unit b.text b.tree), ap (unit_rules at) b.is_unit ∙ (rw passing refl))

        too_deep : JudgedUnit at s
        too_deep =
            let j = joined l.before l.token in
            let w : Lexeme = j.first in
            let through : (z : Stream) → more j.first (j.others ++> z) ≡ (l.before ++ l.token ∷ []) ++> z = λ z. ap (λ (q : List Lexeme). q ++> z) j.is_all in
            let many : suc (length j.others) ≡ suc (length l.before) = omega (arith, ap length j.is_all, length-append l.before (l.token ∷ [])) in
            let is : s ≡ (l.before ++ l.token ∷ []) ++> (l.after ++> p.after) =
            p.is_cut ∙ sym (append_stream p.before (p.passing ∷ []) p.after) ∙ ap (λ (q : List Lexeme). q ++> p.after) (sym whole.is_all ∙ l.is_cut) ∙ append_stream l.before (l.token ∷ l.after) p.after ∙ sym (append_stream l.before (l.token ∷ []) (l.after ++> p.after)) in
            bad j.first j.others (l.after ++> p.after) first closed (is ∙ sym (through (l.after ++> p.after))) (omega (arith, many)) (closed_settles (l.after ++> p.after))
            (λ after h. ap judge (through after) ∙ judge_err ((l.before ++ l.token ∷ []) ++> after) (other (passed stop.kind place)) (unread x.reader x.law 32 (l.before ++ l.token ∷ []) place stop after))
            (λ after u m h r. told after u m (ap (raw x) (sym (through after)) ∙ r))
            (let v = raw_viable x (l.before ++ l.token ∷ []) viable in record { others = v.others; spelled = v.spelled; value = v.value; reads = λ after h. ap (raw x) (through (v.others ++> after)) ∙ v.reads after h; settled = λ after h. closed_settles (v.others ++> after) })
            (λ d g. absurd cc)

      at_limit : (limit : Passed) → p.limit ≡ limit → JudgedUnit at s
      at_limit (passed kind place) k = let l = find_least levels whole.first whole.others place (named kind place k) in too_deep l.place l.it

      deep_unit : JudgedUnit at s
      deep_unit = at_limit p.limit refl

    pub judged_unit : (s : Stream) → JudgedUnit at s
    judged_unit s = at_comes (comes calm calm quiet x.reader x.law 32 s)
      where
        at_comes : Comes calm calm quiet x.reader x.law 32 s → JudgedUnit at s
        at_comes (reads [] e rest is go1 go2) = let n = x.needs 32 in absurd (not_both (x.reader 32 (ends 0)) (e, ends 0) (n.fault 0) (go1 (ends 0) (inr quiet)) (n.refuses 0))
        at_comes (reads (t ∷ ts) e rest is go1 go2) = typed_unit t ts e rest go1 s is (verdict (the_unit (t ∷ ts) e)) refl
        at_comes (refuses ts rest is no1 no2 v) =
            let stuck : x.reader 32 s ≡ Err (refusal rest) = ap (x.reader 32) is ∙ no1 rest refl in
            alike (refusal rest) (refusal_syntactic rest) (judge_err s (refusal rest) stuck ∙ ap Err (same_refusal rest)) (raw_err x s rest (refused_so calm calm quiet x.reader x.law 32 s ts rest is no2))
        at_comes (passes p) = deep_unit s p
