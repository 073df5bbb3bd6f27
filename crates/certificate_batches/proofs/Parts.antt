-- A file that is read in pieces.
use Rattle.std.proofs.Common.{◌≡◌, ℕ, ◌+◌, ◌≤◌, ◌<◌, List, [], ◌++◌, length, take, drop, refl, sym, ◌∙◌, ap, arith, append_assoc, append-nil, length-append, length-take, length-drop}
use Rattle.std.specs.Prelude.{Option, Some, None, IfSome}
use Rattle.std.proofs.lemmas.List.{take_all, nil_from_length}
use Rattle.st_outside.specs.Files.{GivesFront}
use Rattle.step_plan.proofs.Parts.{front_more}
use Rattle.certificate_batches.specs.SoFar.{SoFar}

-- a piece more was read and handed on
pub so_far_more : {A : Type 0} (told before : Option (List ℕ)) (begun mid now : List ℕ → A) (buffer piece : List ℕ) (size n : ℕ) → told ≡ before → n ≤ length buffer
    → SoFar before begun mid size → IfSome told (λ whole. GivesFront size whole buffer n) → piece ≡ take n buffer
    → ((rest : List ℕ) → now rest ≡ mid (piece ++ rest)) → SoFar before begun now (size + n)
so_far_more told before begun mid now buffer piece size n same within so given is moved = record {
  bytes = so.bytes ++ take n buffer;
  sized = omega (arith, so.sized, length-append so.bytes (take n buffer), length-take n buffer);
  front = front_more told before so.bytes buffer (so.bytes ++ take n buffer) size n same (sym so.sized) within so.front given refl;
  same = λ rest. moved rest ∙ ap (λ (p : List ℕ). mid (p ++ rest)) is ∙ so.same (take n buffer ++ rest) ∙ ap begun (sym (append_assoc so.bytes (take n buffer) rest));
}

-- the file ends where it was read to
whole_read : {A : Type 0} (told before : Option (List ℕ)) (begun now : List ℕ → A) (buffer : List ℕ) (size n : ℕ) (so : SoFar before begun now size) → told ≡ before → n ≡ 0
    → IfSome told (λ whole. GivesFront size whole buffer n) → IfSome before (λ whole. so.bytes ≡ whole)
whole_read told None begun now buffer size n so same none given = tt
whole_read None (Some whole) begun now buffer size n so same none given = cc
whole_read (Some w) (Some whole) begun now buffer size n so same none given =
    let one : w ≡ whole = cc in
    let end : drop size w ≡ [] = given.end none in
    let short : length w ≤ size = omega (arith, ap length end, length-drop size w) in
    so.front ∙ take_all (length so.bytes) whole (omega (arith, so.sized, short, ap length one))

-- so what is answered for its bytes is what is answered here
pub answered_here : {A : Type 0} (told before : Option (List ℕ)) (begun now : List ℕ → A) (buffer : List ℕ) (size n : ℕ) (f : A) → told ≡ before → n ≡ 0 → SoFar before begun now size
    → IfSome told (λ whole. GivesFront size whole buffer n) → f ≡ now [] → (bytes : List ℕ) × IfSome before (λ whole. bytes ≡ whole) × (length bytes ≡ size) × (begun bytes ≡ f)
answered_here told before begun now buffer size n f same none so given is =
    (so.bytes, whole_read told before begun now buffer size n so same none given, so.sized, sym (is ∙ so.same [] ∙ ap begun (append-nil so.bytes)))

-- the file is longer than what was read and the limit
pub read_past : {A : Type 0} (told : Option (List ℕ)) (begun now : List ℕ → A) (size limit : ℕ) → SoFar told begun now size → limit < size → IfSome told (λ whole. limit < length whole)
read_past None begun now size limit so past = tt
read_past (Some whole) begun now size limit so past = omega (arith, so.sized, past, ap length so.front, length-take (length so.bytes) whole)

-- the buffer is that in which the piece was put
pub buffer_is : (now items : List ℕ) (len : ℕ) → length now ≡ length items → len ≡ length items → take len (now ++ drop (length now) items) ≡ now
buffer_is now items len same sized =
    let none : drop (length now) items ≡ [] = nil_from_length (drop (length now) items) (omega (arith, same, length-drop (length now) items)) in
    ap (λ (more : List ℕ). take len (now ++ more)) none ∙ ap (take len) (append-nil now) ∙ take_all len now (omega (arith, same, sized))
