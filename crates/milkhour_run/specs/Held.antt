-- The texts that are held, by name.
use Rattle.std.specs.Prelude.{ℕ, List, Option, Some, None, option_map, if◌then◌else◌, codes}
use Rattle.std.specs.Str.{bytes_eq}
use Rattle.step_plan.specs.Plan.{Told}
use Rattle.milkhour_run.specs.declared.held_texts.Texts.{Texts}

-- the bytes of each of the three, where it is there
abbrev pub told_in : Texts → Told
told_in t name =
    if bytes_eq name (codes "program") then option_map (λ bytes. bytes.now) t.program else
    (if bytes_eq name (codes "proof") then option_map (λ bytes. bytes.now) t.proof else
    (if bytes_eq name (codes "third") then option_map (λ bytes. bytes.now) t.third else None))

-- the count of faults of a name: none where it is held
abbrev pub misses_of : Option (List ℕ) → ℕ → ℕ
misses_of (Some bytes) n = 0
misses_of None n = n
