-- No condition passes a limit, each behind those before it, exactly where all of them are within the limits.
use Rattle.std.proofs.Common.{◌≡◌, ℕ, suc, ◌+◌, ◌≤◌, ◌<◌, Bool, true, false, nat_le, nat_lt, List, [], ◌∷◌, ◌++◌, map, length, refl, ap, ◌∙◌, arith, length-append}
use Rattle.std.specs.Prelude.{Option, Some, None, if◌then◌else◌}
use Rattle.std.proofs.lemmas.Bool.Decides.{nat_tests}
use Rattle.list_laws.specs.Each.{Each}
use Rattle.st_form.specs.Condition.{Implication}
use Rattle.temporal_goals.specs.Texts.{PlainStep}
use Rattle.vc_generator.specs.Building.{Draft}
use Rattle.vc_generator.specs.Refusing.{weight_in, weights, refusal}
use Rattle.vc_generator.specs.declared.faults.VcFault.{VcFault}
use Rattle.vc_generator.specs.declared.faults.VcFault.TheVariants as limits
use Rattle.vc_generator.proofs.Weights.{weights-more}
use Rattle.script_laws.specs.Refused.{refused_by, refused_at}
use Rattle.spl_typer.specs.Programs.{Typed}
use Rattle.step_run.specs.Conditions.{drafts, passes_limit}
use Rattle.step_run.specs.WellFormed.{AreWithin}

-- behind these conditions
record Fit (old : List Implication) (ds : List Draft) : Type 0 where
  few : length old + length ds ≤ 20000
  narrow : Each (λ d. d.wide ≤ 2048) ds
  light : weights old + weights (map (λ d. d.condition) ds) ≤ 16777216

-- one is appended
record Goes (old : List Implication) (d : Draft) (ds : List Draft) : Type 0 where
  room : length old < 20000
  narrow : d.wide ≤ 2048
  light : weights old + weight_in d.condition ≤ 16777216
  more : refused_at (old ++ d.condition ∷ []) ds ≡ None

not_full : (n : ℕ) → nat_le 20000 n ≡ false → n < 20000
not_full n e = grind (arith, nat_tests)

not_wide : (n : ℕ) → nat_lt 2048 n ≡ false → n ≤ 2048
not_wide n e = grind (arith, nat_tests)

not_heavy : (n : ℕ) → nat_lt 16777216 n ≡ false → n ≤ 16777216
not_heavy n e = grind (arith, nat_tests)

has_room : (n : ℕ) → n < 20000 → nat_le 20000 n ≡ false
has_room n h = grind (arith, nat_tests)

is_narrow : (n : ℕ) → n ≤ 2048 → nat_lt 2048 n ≡ false
is_narrow n h = grind (arith, nat_tests)

is_light : (n : ℕ) → n ≤ 16777216 → nat_lt 16777216 n ≡ false
is_light n h = grind (arith, nat_tests)

module _ (old : List Implication) (d : Draft) (ds : List Draft) where
  abbrev heavy : ℕ
  heavy = weights old + weight_in d.condition

  abbrev rest : Option (VcFault × ℕ)
  rest = refused_at (old ++ d.condition ∷ []) ds

  goes : (full wide over : Bool) → nat_le 20000 (length old) ≡ full → nat_lt 2048 d.wide ≡ wide → nat_lt 16777216 heavy ≡ over
      → refused_by (if full then Some limits.TooMany else (if wide then Some limits.TooWide else (if over then Some limits.TooHeavy else None))) d.condition.name.step rest ≡ None → Goes old d ds
  goes true wide over a b c e = absurd cc
  goes false true over a b c e = absurd cc
  goes false false true a b c e = absurd cc
  goes false false false a b c e = record { room = not_full (length old) a; narrow = not_wide d.wide b; light = not_heavy heavy c; more = e }

  none_refused : length old < 20000 → d.wide ≤ 2048 → heavy ≤ 16777216 → refusal old d ≡ None
  none_refused a b c =
      ap (λ (x : Bool). if x then Some limits.TooMany else (if nat_lt 2048 d.wide then Some limits.TooWide else (if nat_lt 16777216 heavy then Some limits.TooHeavy else None))) (has_room (length old) a)
      ∙ ap (λ (x : Bool). if x then Some limits.TooWide else (if nat_lt 16777216 heavy then Some limits.TooHeavy else None)) (is_narrow d.wide b)
      ∙ ap (λ (x : Bool). if x then Some limits.TooHeavy else None) (is_light heavy c)

-- sums, whatever the numbers are
one_fewer : (i j n : ℕ) → n ≡ i + 1 → n + j ≤ 20000 → i + suc j ≤ 20000
one_fewer i j n e h = omega (arith, e, h)

one_further : (i j n : ℕ) → n ≡ i + 1 → i + suc j ≤ 20000 → n + j ≤ 20000
one_further i j n e h = omega (arith, e, h)

grouped : (i j k n : ℕ) → n ≡ i + j → n + k ≤ 16777216 → i + (j + k) ≤ 16777216
grouped i j k n e h = omega (arith, e, h)

parted : (i j k n : ℕ) → n ≡ i + j → i + (j + k) ≤ 16777216 → n + k ≤ 16777216
parted i j k n e h = omega (arith, e, h)

fit : (old : List Implication) (ds : List Draft) → length old ≤ 20000 → weights old ≤ 16777216 → refused_at old ds ≡ None → Fit old ds
fit old [] l w e = record { few = omega (arith, l); narrow = tt; light = omega (arith, w) }
fit old (d ∷ ds) l w e =
    let one = goes old d ds (nat_le 20000 (length old)) (nat_lt 2048 d.wide) (nat_lt 16777216 (weights old + weight_in d.condition)) refl refl refl e in
    let size = length-append old (d.condition ∷ []) in
    let weight = weights-more old d.condition in
    let room = one.room in
    let light = one.light in
    let more = fit (old ++ d.condition ∷ []) ds (omega (arith, size, room)) (omega (arith, weight, light)) one.more in
    record {
      few = one_fewer (length old) (length ds) (length (old ++ d.condition ∷ [])) size more.few;
      narrow = (one.narrow, more.narrow);
      light = grouped (weights old) (weight_in d.condition) (weights (map (λ d. d.condition) ds)) (weights (old ++ d.condition ∷ [])) weight more.light;
    }

fits : (old : List Implication) (ds : List Draft) → Fit old ds → refused_at old ds ≡ None
fits old [] f = refl
fits old (d ∷ ds) f =
    ap (λ o. refused_by o d.condition.name.step (refused_at (old ++ d.condition ∷ []) ds)) (none_refused old d ds (room (length old) (length ds) f.few) f.narrow.0 (first (weights old) (weight_in d.condition) (weights (map (λ d. d.condition) ds)) f.light))
    ∙ fits (old ++ d.condition ∷ []) ds (record {
      few = one_further (length old) (length ds) (length (old ++ d.condition ∷ [])) (length-append old (d.condition ∷ [])) f.few;
      narrow = f.narrow.1;
      light = parted (weights old) (weight_in d.condition) (weights (map (λ d. d.condition) ds)) (weights (old ++ d.condition ∷ [])) (weights-more old d.condition) f.light;
    })
  where
    room : (i j : ℕ) → i + suc j ≤ 20000 → i < 20000
    room i j h = omega (arith, h)

    first : (i j k : ℕ) → i + (j + k) ≤ 16777216 → i + j ≤ 16777216
    first i j k h = omega (arith, h)

module _ (p : Typed) (steps : List PlainStep) where
  alone : (n k : ℕ) → 0 + n ≤ k → n ≤ k
  alone n k h = omega (arith, h)

  behind_none : (n k : ℕ) → n ≤ k → 0 + n ≤ k
  behind_none n k h = omega (arith, h)

  abbrev weight : ℕ
  weight = weights (map (λ d. d.condition) (drafts p steps))

  pub are_within : passes_limit p steps ≡ None → AreWithin (drafts p steps)
  are_within e =
      let f = fit [] (drafts p steps) (omega arith) (omega arith) e in
      record { few = alone (length (drafts p steps)) 20000 f.few; narrow = f.narrow; light = alone weight 16777216 f.light }

  pub none_pass : AreWithin (drafts p steps) → passes_limit p steps ≡ None
  none_pass w = fits [] (drafts p steps) (record { few = behind_none (length (drafts p steps)) 20000 w.few; narrow = w.narrow; light = behind_none weight 16777216 w.light })
