-- Texts read in parts.
use Rattle.std.proofs.Common.{◌≡◌, ℕ, ◌+◌, ◌-◌, ◌≤◌, List, ◌++◌, length, take, drop, refl, sym, ◌∙◌, ap, arith, append_assoc, length-append, length-take, length-drop}
use Rattle.std.specs.Prelude.{Option, Some, None, IfSome}
use Rattle.std.proofs.Math.Seq.{take-add}
use Rattle.std.proofs.lemmas.List.{take_all}
use Rattle.st_outside.specs.Files.{GivesFront}
use Rattle.st_outside.specs.Sink.{behind}

pub behind-behind : (before : Option (List ℕ)) (a b : List ℕ) → behind (behind before a) b ≡ behind before (a ++ b)
behind-behind None a b = refl
behind-behind (Some t) a b = ap Some (append_assoc t a b)

pub behind_more : (before mid after : Option (List ℕ)) (text : List ℕ) (i n : ℕ) → mid ≡ behind before (take i text) → after ≡ behind mid (take n (take (length text - i) (drop i text))) → after ≡ behind before (take (i + n) text)
behind_more before mid after text i n so_far now =
    let rest : take (length text - i) (drop i text) ≡ drop i text = take_all _ _ (omega (arith, length-drop i text)) in
    now ∙ ap (λ (r : List ℕ). behind mid (take n r)) rest ∙ ap (λ (o : Option (List ℕ)). behind o (take n (drop i text))) so_far
    ∙ behind-behind before (take i text) (take n (drop i text)) ∙ ap (behind before) (sym (take-add i n text))

pub front_more : (told before : Option (List ℕ)) (bytes buffer more : List ℕ) (at n : ℕ) → told ≡ before → at ≡ length bytes → n ≤ length buffer
    → IfSome before (λ whole. bytes ≡ take (length bytes) whole) → IfSome told (λ whole. GivesFront at whole buffer n)
    → more ≡ bytes ++ take n buffer → IfSome before (λ whole. more ≡ take (length more) whole)
front_more told None bytes buffer more at n same here within so_far given is = tt
front_more None (Some whole) bytes buffer more at n same here within so_far given is = cc
front_more (Some w) (Some whole) bytes buffer more at n same here within so_far given is =
    let one : w ≡ whole = cc in
    let size : length more ≡ length bytes + n = omega (arith, ap length is, length-append bytes (take n buffer), length-take n buffer) in
    is ∙ ap (λ (b : List ℕ). b ++ take n buffer) so_far
    ∙ ap (λ (b : List ℕ). take (length bytes) whole ++ b) (given.front ∙ ap (λ (b : List ℕ). take n (drop at b)) one ∙ ap (λ (k : ℕ). take n (drop k whole)) here)
    ∙ sym (take-add (length bytes) n whole) ∙ ap (λ (k : ℕ). take k whole) (sym size)
