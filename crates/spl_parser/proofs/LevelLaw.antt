-- The law of statements inside others, for any number of levels beside any larger one: by induction on the levels.
use Rattle.std.proofs.Common.{◌≡◌, ℕ, zero, suc, ◌+◌, Bool, true, false, List, [], ◌∷◌, Err, refl, sym, ap, ◌∙◌}
use Rattle.st_tokens.specs.declared.limit.LimitKind.{LimitKind}
use Rattle.st_tokens.specs.declared.limit.LimitKind.TheVariants as limits
use Rattle.st_tokens.specs.Stream.{Lexeme, Stream, ends, breaks, more}
use Rattle.st_reading.specs.declared.sign.Sign.TheVariants as signs
use Rattle.st_reading.specs.Sign.{sign_of}
use Rattle.st_reading.specs.Faults.{passed}
use Rattle.st_reading.specs.Reading.{other, ahead, refusal, syntax}
use Rattle.st_reading.specs.Spelling.{Sound}
use Rattle.st_reading.specs.Steady.{Viable, SteadyAt, wider}
use Rattle.st_reading.proofs.Streams.{token_is}
use Rattle.st_reading.proofs.Steadiness.{at_stuck, at_over}
use Rattle.st_reading.proofs.Soundness.{sound_shrinks}
use Rattle.st_reading.proofs.Lawful.{Lawful, at_head, viable_of}
use Rattle.expression_parser.specs.ExpressionTree.{Expr}
use Rattle.spl_parser.specs.Begun.{Begun, fresh, after_name, after_label}
use Rattle.expression_parser.specs.Calm.{calm}
use Rattle.expression_parser.specs.Reading.{Reader}
use Rattle.spl_parser.specs.Statements.{Lower, goes_on, front_place, statement_of, inside}
use Rattle.spl_parser.proofs.ListLaw.{same}
use Rattle.expression_parser.proofs.FormulaTheorems.{quiet}
use Rattle.spl_parser.proofs.WholeLaw.{lawful_statement, statement_ends}
use Rattle.spl_parser.proofs.ProgramSoundness.{Lowered, inside_sound}
use Rattle.spl_parser.proofs.InsideLaw.{unlimited, deeper, inside_completes, inside_over}

-- where no statement goes on
pub off : (value : Reader Expr) (may : ℕ → Bool) (room : ℕ) (b : Begun) (n : ℕ) (s : Stream) → goes_on b (ahead s) ≡ false → inside value may room b n s ≡ Err (refusal s)
unfolding inside
off value may zero b n s h = rw h refl
off value may (suc room) b n s h = rw h refl

-- where one goes on, and may begin
pub begins_there : (value : Reader Expr) (may : ℕ → Bool) (room : ℕ) (b : Begun) (n : ℕ) (t : Lexeme) (after : Stream) → goes_on b (sign_of t) ≡ true → may n ≡ true → inside value may (suc room) b n (more t after) ≡ statement_of value (inside value may room) b (n + 1) (more t after)
unfolding inside
begins_there value may room b n t after h m = rw (h, m) refl

-- and where there are too many
too_many : (value : Reader Expr) (may : ℕ → Bool) (room : ℕ) (b : Begun) (n : ℕ) (t : Lexeme) (after : Stream) → goes_on b (sign_of t) ≡ true → may n ≡ false → inside value may room b n (more t after) ≡ Err (other (passed limits.Statements (front_place b t.start)))
unfolding inside
too_many value may zero b n t after h m = rw (h, m) refl
too_many value may (suc room) b n t after h m = rw (h, m) refl

-- or too many round it
too_deep : (value : Reader Expr) (may : ℕ → Bool) (b : Begun) (n : ℕ) (t : Lexeme) (after : Stream) → goes_on b (sign_of t) ≡ true → may n ≡ true → inside value may zero b n (more t after) ≡ Err (other (passed limits.Nesting (front_place b t.start)))
unfolding inside
too_deep value may b n t after h m = rw (h, m) refl

nothing_goes_on : (b : Begun) → goes_on b signs.Nothing ≡ false
nothing_goes_on (fresh true) = refl
nothing_goes_on (fresh false) = refl
nothing_goes_on (after_name l) = refl
nothing_goes_on (after_label l) = refl

pub inside_ends : (value : Reader Expr) (may : ℕ → Bool) (room : ℕ) (b : Begun) (n : ℕ) → inside value may room b n (ends 0) ≡ Err (syntax 0)
inside_ends value may room b n = off value may room b n (ends 0) (nothing_goes_on b)

module _ (value : Reader Expr) (values : ℕ → Reader Expr) (lawful : Lawful calm calm value values) (none : value (ends 0) ≡ Err (syntax 0)) (V : List Lexeme → Expr → Type 0) (sv : Sound value V) (Vs : ℕ → List Lexeme → Expr → Type 0) (svs : (i : ℕ) → Sound (values i) (Vs i)) (may : ℕ → Bool) where
  -- with more room
  abbrev pub deepers : ℕ → ℕ → Lower
  deepers room i = inside (values i) unlimited (deeper room i)

  value_completes : (i : ℕ) → Viable calm calm (values i) []
  value_completes i = viable_of calm calm value (wider (same calm)) values lawful i

  pub deeper_completes : (room i : ℕ) (b : Begun) (n : ℕ) → Viable calm calm (deepers room i b n) []
  deeper_completes zero i b n = inside_completes (values i) (value_completes i) (suc i) b n
  deeper_completes (suc room) i b n = inside_completes (values i) (value_completes i) (deeper room i) b n

  deeper_over : (room i : ℕ) (b : Begun) (n : ℕ) (t : Lexeme) → goes_on b (sign_of t) ≡ true → Viable calm calm (deepers room i b n) (t ∷ [])
  deeper_over zero i b n t h = inside_over (values i) (value_completes i) i t b n h
  deeper_over (suc zero) i b n t h = inside_over (values i) (value_completes i) (suc i) t b n h
  deeper_over (suc (suc room)) i b n t h = inside_over (values i) (value_completes i) (deeper room i) t b n h

  stays_off : (room : ℕ) (b : Begun) (n : ℕ) (s : Stream) → goes_on b (ahead s) ≡ false → SteadyAt calm calm (inside value may room b n) (λ i. deepers room i b n) s
  stays_off room b n s h =
      at_stuck calm calm (inside value may room b n) (λ i. deepers room i b n) s (λ after e. off value may room b n after (ap (goes_on b) e ∙ h)) (λ i after e. off (values i) unlimited (deeper room i) b n after (ap (goes_on b) e ∙ h)) (λ i. deeper_completes room i b n)

  -- a limit is passed
  limited_at : (room : ℕ) (b : Begun) (n : ℕ) (t : Lexeme) (s : Stream) (kind : LimitKind) → goes_on b (sign_of t) ≡ true → ((after : Stream) → inside value may room b n (more t after) ≡ Err (other (passed kind (front_place b t.start)))) → SteadyAt calm calm (inside value may room b n) (λ i. deepers room i b n) (more t s)
  limited_at room b n t s kind h refused = at_over calm calm (inside value may room b n) (λ i. deepers room i b n) t (passed kind (front_place b t.start)) s refused (λ i. deeper_completes room i b n) (λ i. deeper_over room i b n t h)

  -- a statement begins there
  module _ (room : ℕ) (ll : (b : Begun) (n : ℕ) → Lawful calm calm (inside value may room b n) (λ i. deepers room i b n)) where
    begun_at : (b : Begun) (n : ℕ) (t : Lexeme) (s : Stream) → goes_on b (sign_of t) ≡ true → may n ≡ true → SteadyAt calm calm (inside value may (suc room) b n) (λ i. deepers (suc room) i b n) (more t s)
    begun_at b n t s h m =
        at_head calm calm calm quiet (inside value may (suc room) b n) (statement_of value (inside value may room) b (n + 1)) (λ i. deepers (suc room) i b n) (λ i. statement_of (values i) (deepers room i) b (n + 1)) (more t s)
        (λ after e. let k = token_is t after e in ap (inside value may (suc room) b n) k.1 ∙ begins_there value may room b n t k.0 h m ∙ ap (statement_of value (inside value may room) b (n + 1)) (sym k.1))
        (λ i after e. let k = token_is t after e in ap (deepers (suc room) i b n) k.1 ∙ begins_there (values i) unlimited (deeper room i) b n t k.0 h refl ∙ ap (statement_of (values i) (deepers room i) b (n + 1)) (sym k.1))
        (syntax 0) (statement_ends value values lawful none (inside value may room) (deepers room) ll (inside_ends value may room) b (n + 1)) (λ i. deeper_completes (suc room) i b n)
        ((lawful_statement value values lawful none (inside value may room) (deepers room) ll (inside_ends value may room) b (n + 1)).law (more t s))

    pub deep_token : (b : Begun) (n : ℕ) (t : Lexeme) (s : Stream) (c : Bool) → c ≡ goes_on b (sign_of t) → (d : Bool) → d ≡ may n → SteadyAt calm calm (inside value may (suc room) b n) (λ i. deepers (suc room) i b n) (more t s)
    deep_token b n t s false e d f = stays_off (suc room) b n (more t s) (sym e)
    deep_token b n t s true e true f = begun_at b n t s (sym e) (sym f)
    deep_token b n t s true e false f = limited_at (suc room) b n t s limits.Statements (sym e) (λ after. too_many value may (suc room) b n t after (sym e) (sym f))

  last_token : (b : Begun) (n : ℕ) (t : Lexeme) (s : Stream) (c : Bool) → c ≡ goes_on b (sign_of t) → (d : Bool) → d ≡ may n → SteadyAt calm calm (inside value may zero b n) (λ i. deepers zero i b n) (more t s)
  last_token b n t s false e d f = stays_off zero b n (more t s) (sym e)
  last_token b n t s true e true f = limited_at zero b n t s limits.Nesting (sym e) (λ after. too_deep value may b n t after (sym e) (sym f))
  last_token b n t s true e false f = limited_at zero b n t s limits.Statements (sym e) (λ after. too_many value may zero b n t after (sym e) (sym f))

  with_shrinking : (room : ℕ) (b : Begun) (n : ℕ) → ((s : Stream) → SteadyAt calm calm (inside value may room b n) (λ i. deepers room i b n) s) → Lawful calm calm (inside value may room b n) (λ i. deepers room i b n)
  with_shrinking room b n law = record {
    law = law;
    one = sound_shrinks (inside value may room b n) (λ ts x. Lowered V room b ts x.0) ((inside_sound value V sv may room).sound b n);
    each = λ i. sound_shrinks (deepers room i b n) (λ ts x. Lowered (Vs i) (deeper room i) b ts x.0) ((inside_sound (values i) (Vs i) (svs i) unlimited (deeper room i)).sound b n);
  }

  pub lawful_inside : (room : ℕ) (b : Begun) (n : ℕ) → Lawful calm calm (inside value may room b n) (λ i. deepers room i b n)
  lawful_inside zero b n = with_shrinking zero b n law
    where
      law : (s : Stream) → SteadyAt calm calm (inside value may zero b n) (λ i. deepers zero i b n) s
      law (ends p) = stays_off zero b n (ends p) (nothing_goes_on b)
      law (breaks f) = stays_off zero b n (breaks f) (nothing_goes_on b)
      law (more t s) = last_token b n t s (goes_on b (sign_of t)) refl (may n) refl
  lawful_inside (suc room) b n = with_shrinking (suc room) b n (law (λ b n. lawful_inside room b n))
    where
      law : ((b : Begun) (n : ℕ) → Lawful calm calm (inside value may room b n) (λ i. deepers room i b n)) → (s : Stream) → SteadyAt calm calm (inside value may (suc room) b n) (λ i. deepers (suc room) i b n) s
      law ll (ends p) = stays_off (suc room) b n (ends p) (nothing_goes_on b)
      law ll (breaks f) = stays_off (suc room) b n (breaks f) (nothing_goes_on b)
      law ll (more t s) = deep_token room ll b n t s (goes_on b (sign_of t)) refl (may n) refl
