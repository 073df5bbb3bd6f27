-- The law of statements inside others, with any number of levels beside any larger number.
use Rattle.std.proofs.Common.{◌≡◌, ℕ, zero, suc, ◌+◌, Bool, true, false, [], ◌∷◌, Option, Some, None, Ok, refl, ap, ◌∙◌}
use Rattle.st_tokens.specs.Stream.{◌++>◌, Lexeme, Stream, more}
use Rattle.st_reading.specs.declared.mark.Mark.TheVariants as marks
use Rattle.st_reading.specs.declared.sign.Sign.{Sign}
use Rattle.st_reading.specs.Mark.{number}
use Rattle.st_reading.specs.Sign.{sign_of, is}
use Rattle.st_reading.specs.Reading.{Label, label_of, is_name, gives, then_reads, Counted}
use Rattle.st_reading.specs.Steady.{Viable}
use Rattle.st_reading.proofs.Branches.{completes_map, completes_behind, completes_over, completes_gives}
use Rattle.spl_parser.specs.declared.sign.Start.{Start}
use Rattle.spl_parser.specs.declared.sign.Start.TheVariants as starts
use Rattle.spl_parser.specs.Signs.{start, begins}
use Rattle.expression_parser.specs.ExpressionTree.{Expr}
use Rattle.spl_parser.specs.ProgramTree.{stated, Action, skip, assign}
use Rattle.spl_parser.specs.Begun.{Begun, fresh, after_name, after_label}
use Rattle.expression_parser.specs.Calm.{calm}
use Rattle.expression_parser.specs.Reading.{Reader}
use Rattle.spl_parser.specs.Statements.{Lower, goes_on, right_side_of, action_of, standing, bare_of, named_of, assigned_of, statement_of, inside}
use Rattle.spl_parser.proofs.Witnesses.{witness_is, witness_in, becomes_mark, colon_mark, skip_mark}
use Rattle.spl_parser.proofs.ListLaw.{same}
use Rattle.spl_parser.proofs.BodyLaw.{colon_calm}
use Rattle.spl_parser.proofs.WholeLaw.{skip_starts, skip_calm}
use Rattle.spl_parser.proofs.Completing.{action_completes}

-- there is no limit on their number
abbrev pub unlimited : ℕ → Bool
unlimited n = true

-- More levels by at least two: one for the statement that a limit refuses, and one for what completes it.
abbrev pub deeper : ℕ → ℕ → ℕ
deeper zero i = suc (suc i)
deeper (suc room) i = suc (deeper room i)

becomes_calm : calm (sign_of becomes_mark.token) ≡ true
unfolding number calm
becomes_calm = witness_in marks.Becomes becomes_mark calm refl

skip_no_name : is_name (sign_of skip_mark.token) ≡ false
skip_no_name = ap is_name skip_mark.sign

module _ (value : Reader Expr) (vv : Viable calm calm value []) where
  -- "skip" is a statement
  module _ (lower : Lower) where
    bare_skip : (inner : Bool) (label : Option Label) (n : ℕ) (after : Stream) → bare_of value lower inner label n (more skip_mark.token after) ≡ Ok ((stated label skip_mark.token.start skip, n), after)
    unfolding bare_of action_of
    bare_skip inner label n after = rw skip_starts refl

    statement_skip : (inner : Bool) (n : ℕ) (after : Stream) → statement_of value lower (fresh inner) n (more skip_mark.token after) ≡ Ok ((stated None skip_mark.token.start skip, n), after)
    unfolding statement_of
    statement_skip true n after = bare_skip true None n after
    statement_skip false n after = rw skip_no_name (bare_skip false None n after)

  begins_skip : (inner : Bool) → begins inner (Some starts.Skip) ≡ true
  begins_skip true = refl
  begins_skip false = refl

  -- where a statement goes on with the token
  on_token : (room : ℕ) (b : Begun) (n : ℕ) (t : Lexeme) (after : Stream) → goes_on b (sign_of t) ≡ true → inside value unlimited (suc room) b n (more t after) ≡ statement_of value (inside value unlimited room) b (n + 1) (more t after)
  unfolding inside
  on_token room b n t after h = rw h refl

  assigned_on : (l : Label) (n : ℕ) (t : Lexeme) (after : Stream) → is (sign_of t) marks.Becomes ≡ true → assigned_of value l n (more t after) ≡ then_reads value (λ e. gives (stated None l.place (assign l e), n)) after
  unfolding assigned_of right_side_of
  assigned_on l n t after h = rw h refl

  -- the "skip" is all that is asked of what may begin
  pub fresh_completes : (set : Sign → Bool) → set (sign_of skip_mark.token) ≡ true → (room : ℕ) (inner : Bool) (n : ℕ) → Viable set calm (inside value unlimited (suc room) (fresh inner) n) []
  fresh_completes set h room inner n =
      completes_behind set calm calm (inside value unlimited (suc room) (fresh inner) n) (gives (stated None skip_mark.token.start skip, n + 1)) skip_mark.token skip_mark.spelled h
      (λ after. on_token room (fresh inner) n skip_mark.token after (ap (begins inner) skip_starts ∙ begins_skip inner) ∙ statement_skip (inside value unlimited room) inner (n + 1) after)
      (completes_gives calm calm (same calm) (stated None skip_mark.token.start skip, n + 1))

  pub inside_completes : (room : ℕ) (b : Begun) (n : ℕ) → Viable calm calm (inside value unlimited (suc room) b n) []
  unfolding statement_of assigned_of
  inside_completes room (fresh inner) n = fresh_completes calm skip_calm room inner n
  inside_completes room (after_label l) n =
      completes_behind calm calm calm (inside value unlimited (suc room) (after_label l) n) (gives (stated (Some l) skip_mark.token.start skip, n + 1)) skip_mark.token skip_mark.spelled skip_calm
      (λ after. on_token room (after_label l) n skip_mark.token after (ap (begins false) skip_starts) ∙ bare_skip (inside value unlimited room) false (Some l) (n + 1) after)
      (completes_gives calm calm (same calm) (stated (Some l) skip_mark.token.start skip, n + 1))
  inside_completes room (after_name l) n =
      completes_behind calm calm calm (inside value unlimited (suc room) (after_name l) n) (then_reads value (λ e. gives (stated None l.place (assign l e), n + 1))) becomes_mark.token becomes_mark.spelled becomes_calm
      (λ after. on_token room (after_name l) n becomes_mark.token after (witness_is marks.Becomes becomes_mark) ∙ behind_becomes after)
      (completes_map calm calm (λ e. (stated None l.place (assign l e), n + 1)) value vv)
    where
      behind_becomes : (after : Stream) → assigned_of value l (n + 1) (more becomes_mark.token after) ≡ then_reads value (λ e. gives (stated None l.place (assign l e), n + 1)) after
      behind_becomes after = assigned_on l (n + 1) becomes_mark.token after (witness_is marks.Becomes becomes_mark)

  -- OVER A TOKEN WITH WHICH A STATEMENT GOES ON
  module _ (room : ℕ) where
    lower : Lower
    lower = inside value unlimited (suc room)

    behind_completes : (inner : Bool) (label : Option Label) (n place : ℕ) (l : Label) (x : Start) → Viable calm calm (then_reads (action_of value lower inner n l x) (λ a. gives (standing label place a))) []
    unfolding lower
    behind_completes inner label n place l x = completes_map calm calm (λ (a : Counted Action). (stated label place a.0, a.1)) (action_of value lower inner n l x) (action_completes value vv lower (inside_completes room) inner n l x)

    bare_over : (t : Lexeme) (inner : Bool) (label : Option Label) (n : ℕ) (x : Start) → Some x ≡ start (sign_of t) → Viable calm calm (bare_of value lower inner label n) (t ∷ [])
    unfolding bare_of
    bare_over t inner label n x h = completes_over calm calm calm (bare_of value lower inner label n) (then_reads (action_of value lower inner n (label_of t) x) (λ a. gives (standing label t.start a))) t (λ after. rw (← h) refl) (behind_completes inner label n t.start (label_of t) x)

    -- a start there is
    some_start : (t : Lexeme) (inner : Bool) (label : Option Label) (n : ℕ) (c : Option Start) → c ≡ start (sign_of t) → begins inner c ≡ true → Viable calm calm (bare_of value lower inner label n) (t ∷ [])
    some_start t inner label n None e h = cc
    some_start t inner label n (Some x) e h = bare_over t inner label n x e

    bare_first : (inner : Bool) (label : Option Label) (n : ℕ) → Viable calm calm (bare_of value lower inner label n) []
    unfolding lower
    bare_first inner label n = completes_behind calm calm calm (bare_of value lower inner label n) (gives (stated label skip_mark.token.start skip, n)) skip_mark.token skip_mark.spelled skip_calm (bare_skip lower inner label n) (completes_gives calm calm (same calm) (stated label skip_mark.token.start skip, n))

    named_first : (l : Label) (n : ℕ) → Viable calm calm (named_of value lower l n) []
    unfolding named_of
    named_first l n = completes_behind calm calm calm (named_of value lower l n) (bare_of value lower false (Some l) n) colon_mark.token colon_mark.spelled colon_calm (λ after. rw (witness_is marks.Colon colon_mark) refl) (bare_first false (Some l) n)

    fresh_over : (t : Lexeme) (n : ℕ) (c : Bool) → c ≡ is_name (sign_of t) → begins false (start (sign_of t)) ≡ true → Viable calm calm (statement_of value lower (fresh false) n) (t ∷ [])
    unfolding statement_of
    fresh_over t n true e h = completes_over calm calm calm (statement_of value lower (fresh false) n) (named_of value lower (label_of t) n) t (λ after. rw (← e) refl) (named_first (label_of t) n)
    fresh_over t n false e h =
        let v = some_start t false None n (start (sign_of t)) refl h in
        record { others = v.others; spelled = v.spelled; value = v.value; begins = λ n. cc; reads = λ after k. rw (← e) (v.reads after k) }

    statement_over : (t : Lexeme) (b : Begun) (n : ℕ) → goes_on b (sign_of t) ≡ true → Viable calm calm (statement_of value lower b n) (t ∷ [])
    unfolding statement_of
    statement_over t (fresh true) n h = some_start t true None n (start (sign_of t)) refl h
    statement_over t (fresh false) n h = fresh_over t n (is_name (sign_of t)) refl h
    statement_over t (after_label l) n h = some_start t false (Some l) n (start (sign_of t)) refl h
    statement_over t (after_name l) n h =
        completes_over calm calm calm (assigned_of value l n) (then_reads value (λ e. gives (stated None l.place (assign l e), n))) t (λ after. assigned_on l n t after h) (completes_map calm calm (λ e. (stated None l.place (assign l e), n)) value vv)

    pub inside_over : (t : Lexeme) (b : Begun) (n : ℕ) → goes_on b (sign_of t) ≡ true → Viable calm calm (inside value unlimited (suc (suc room)) b n) (t ∷ [])
    unfolding lower
    inside_over t b n h =
        let v = statement_over t b (n + 1) h in
        record { others = v.others; spelled = v.spelled; value = v.value; begins = λ n. cc; reads = λ after k. on_token (suc room) b n t (v.others ++> after) h ∙ v.reads after k }
