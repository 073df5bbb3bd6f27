-- A name, or a keyword, is one token where no letter, digit or underscore follows.
use Rattle.std.proofs.Common.{◌≡◌, ℕ, ◌+◌, ◌<◌, Bool, true, false, cond, ◌==◌, List, [], ◌∷◌, ◌++◌, take, length, refl, ap, ◌∙◌, arith}
use Rattle.std.specs.List.{prefix_len}
use Rattle.std.proofs.Math.Seq.{take-append_seam}
use Rattle.std.proofs.lemmas.Bool.Decides.{nat_tests}
use Rattle.st_tokens.specs.declared.kind.TokenKind.TheVariants.{Name, Keyword}
use Rattle.st_tokens.specs.declared.kind.Front.TheVariants.{Whole}
use Rattle.st_tokens.specs.Text.{front, is_letter, is_blank, is_word_byte, word_kind}
use Rattle.declared_names.specs.Words.{AreWordBytes, IsWord}
use Rattle.printed_formulas.specs.Loose.{IsLoose}
use Rattle.printed_formulas.proofs.Pieces.{Piece, OneToken, token}

letter_first : (b : ℕ) → is_letter b ≡ true → (is_blank b ≡ false) × ((b == 37) ≡ false)
letter_first b e = (grind (arith, nat_tests, e), grind (arith, nat_tests, e))

pub word_prefix : (bs after : List ℕ) → AreWordBytes bs → IsLoose after → prefix_len is_word_byte (bs ++ after) ≡ length bs
word_prefix [] [] h l = refl
word_prefix [] (c ∷ after) h l = rw l refl
word_prefix (b ∷ bs) after h l = rw h.0 (omega (arith, word_prefix bs after h.1 l))

-- a letter, and more letters, digits and underscores
pub word_front : (b : ℕ) (bs after : List ℕ) → is_letter b ≡ true → AreWordBytes bs → IsLoose after → front (b ∷ bs ++ after) ≡ Whole (word_kind (b ∷ bs)) (length (b ∷ bs))
word_front b bs after letter h l =
    let first = letter_first b letter in
    let long : 1 + prefix_len is_word_byte (bs ++ after) ≡ length (b ∷ bs) = omega (arith, word_prefix bs after h l) in
    rw (first.0, first.1, letter)
    (ap (λ (n : ℕ). Whole (word_kind (take n (b ∷ bs ++ after))) n) long
    ∙ ap (λ (s : List ℕ). Whole (word_kind s) (length (b ∷ bs))) (take-append_seam (b ∷ bs) after))

pub name_front : (name after : List ℕ) → IsWord name → IsLoose after → front (name ++ after) ≡ Whole Name (length name)
name_front [] after h l = absurd h
name_front (b ∷ bs) after h l =
    word_front b bs after h.0 h.1 l ∙ ap (λ (k : Bool). Whole (cond k Keyword Name) (length (b ∷ bs))) h.2

some_byte : (name : List ℕ) → IsWord name → 0 < length name
some_byte [] h = absurd h
some_byte (b ∷ bs) h = omega arith

pub name_piece : (name : List ℕ) → IsWord name → Piece IsLoose name (OneToken Name name)
name_piece name h = token IsLoose Name name (some_byte name h) (λ after l. name_front name after h l)
