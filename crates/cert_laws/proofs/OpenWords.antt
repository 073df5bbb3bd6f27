-- In the midst of a word that the machine has not refused, letters lead on to one that may stand there.
use Rattle.std.proofs.Common.{◌≡◌, ℕ, Bool, true, false, cond, ◌&&◌, ◌||◌, inl, inr, List, [], ◌∷◌, ◌++◌, length, drop, refl, sym, ap, ◌∙◌, subst, codes, nat_eq, ◌==◌, append_assoc}
use Rattle.std.proofs.lemmas.Bool.Decides.{Decides-eqb}
use Rattle.std.proofs.lemmas.Slice.Eq.{starts_is}
use Rattle.std.specs.List.{starts_with}
use Rattle.cert_text.specs.declared.scan.Word.{Word}
use Rattle.cert_text.specs.declared.scan.Word.TheVariants as words
use Rattle.cert_text.specs.declared.scan.Token.TheVariants as tokens
use Rattle.cert_text.specs.declared.scan.Want.{Want}
use Rattle.cert_text.specs.declared.scan.Want.TheVariants as wants
use Rattle.cert_text.specs.declared.scan.Scan.{Scan}
use Rattle.cert_text.specs.declared.scan.Action.{Action}
use Rattle.cert_text.specs.declared.scan.Given.{Given}
use Rattle.cert_text.specs.declared.scan.Given.TheVariants as givens
use Rattle.cert_text.specs.Control.{give_at, begins, begins_tree, is_full, fits_word_at}
use Rattle.cert_text.specs.Letters.{is_blank}
use Rattle.cert_text.specs.Run.{scan_at}
use Rattle.cert_laws.specs.Spelled.{letters_of, AreAll}
use Rattle.cert_laws.proofs.Tails.{Tail, begins_block, begins_header}
use Rattle.cert_laws.proofs.Opens.{is_wrong, number_starts, header_number_starts, token_tail}

no_truth : false ≡ true → ⊥
no_truth h = cc

either : (P : Type 0) (a b : Bool) → (a ≡ true → P) → (b ≡ true → P) → (a || b) ≡ true → P
either P true b f g h = f refl
either P false b f g h = g h

both : (P : Type 0) (a b : Bool) → (a ≡ true → b ≡ true → P) → (a && b) ≡ true → P
both P true b f h = f refl h
both P false b f h = absurd (no_truth h)

-- words

abbrev IsBegun : List ℕ → List ℕ → Type 0
IsBegun ls word = (more : List ℕ) × (word ≡ ls ++ more)

begun_by : (ls word : List ℕ) → begins ls word ≡ true → IsBegun ls word
unfolding begins
begun_by ls word h = (drop (length ls) word, (starts_is Decides-eqb word ls (starts_with nat_eq word ls) refl).0 h)

pub over_or_on : (c : Bool) (g : Given) → is_wrong g ≡ false → is_wrong (cond c givens.Over g) ≡ false
over_or_on true g h = refl
over_or_on false g h = h

one_of : (c : Bool) (x y : Scan) (a : Action) → is_wrong (cond c (givens.On x a) (givens.On y a)) ≡ false
one_of true x y a = refl
one_of false x y a = refl

pub not_or : (c : Bool) (g : Given) → c ≡ false → is_wrong g ≡ false → is_wrong (cond c givens.Wrong g) ≡ false
not_or true g e h = absurd (no_truth (sym e))
not_or false g e h = h

module _ (number : ℕ) (second : Bool) (d trees : ℕ) (blanks : List ℕ) (b : AreAll is_blank blanks) where
  abbrev pub Opened : Want → List ℕ → Type 0
  Opened want cs = (more : List ℕ) × Tail number second want d (blanks ++ (cs ++ more))

  abbrev WordTail : Want → Word → Type 0
  WordTail want w = (rest : List ℕ) × Tail number second want d (blanks ++ (letters_of w ++ rest))

  opened_word : (want : Want) (ls : List ℕ) (w : Word) → WordTail want w → IsBegun ls (letters_of w) → Opened want ls
  opened_word want ls w t h = (h.0 ++ t.0, subst (λ xs. Tail number second want d (blanks ++ xs)) (ap (λ xs. xs ++ t.0) h.1 ∙ append_assoc ls h.0 t.0) t.1)

  tree_word : (end : Bool) (w : Word) → is_wrong (give_at (wants.Tree end) (scan_at number second (wants.Tree end) d trees) (tokens.Word w)) ≡ false → WordTail (wants.Tree end) w
  tree_word end w e = let t = token_tail number second (wants.Tree end) d trees (tokens.Word w) blanks (letters_of w) refl e b refl in (t.0, t.1)

  absurd_given : (end : Bool) → is_wrong (give_at (wants.Tree end) (scan_at number second (wants.Tree end) d trees) (tokens.Word words.Absurd)) ≡ false
  absurd_given end = over_or_on _ _ (one_of (d == 0) _ _ _)

  opened_tree : (end : Bool) (ls : List ℕ) → begins_tree second ls ≡ true → Opened (wants.Tree end) ls
  opened_tree end ls =
      let P = Opened (wants.Tree end) ls in
      let full = is_full (scan_at number second (wants.Tree end) d trees) in
      let word = λ (w : Word) (e : is_wrong (give_at (wants.Tree end) (scan_at number second (wants.Tree end) d trees) (tokens.Word w)) ≡ false) (g : begins ls (letters_of w) ≡ true). opened_word (wants.Tree end) ls w (tree_word end w e) (begun_by ls (letters_of w) g) in
      either P _ _ (either P _ _ (either P _ _ (either P _ _ (either P _ _ (either P _ _
      (word words.Absurd (absurd_given end))
      (word words.Farkas (over_or_on full _ refl)))
      (word words.Case (over_or_on full _ refl)))
      (word words.Truth (over_or_on full _ refl)))
      (word words.Split (over_or_on full _ refl)))
      (word words.Cut (over_or_on full _ refl)))
      (both P _ _ (λ v g. word words.Linear (subst (λ x. is_wrong (give_at (wants.Tree end) (scan_at number x (wants.Tree end) d trees) (tokens.Word words.Linear)) ≡ false) (sym v) (over_or_on (is_full (scan_at number true (wants.Tree end) d trees)) _ refl)) g))

  opened_block : (header : Bool) (ls : List ℕ) → (begins ls (codes "cert") || (header && begins ls (codes "version"))) ≡ true → Opened (wants.Block header) ls
  opened_block header ls = either (Opened (wants.Block header) ls) _ _ cert (both (Opened (wants.Block header) ls) _ _ version) where
    cert : begins ls (codes "cert") ≡ true → Opened (wants.Block header) ls
    cert g =
        let n = number_starts number second d (32 ∷ []) (refl, tt) in
        opened_word (wants.Block header) ls words.Cert (32 ∷ n.0, inl (begins_block number second d blanks (letters_of words.Cert) (32 ∷ n.0) b refl refl n.1)) (begun_by ls (codes "cert") g)

    version : header ≡ true → begins ls (codes "version") ≡ true → Opened (wants.Block header) ls
    version e g =
        let n = header_number_starts number d (32 ∷ []) (refl, tt) in
        opened_word (wants.Block header) ls words.Version (32 ∷ n.0, inr (e, begins_header number d blanks (letters_of words.Version) (32 ∷ n.0) b refl n.1)) (begun_by ls (codes "version") g)

  pub opens_word : (want : Want) (ls : List ℕ) → fits_word_at want second ls ≡ true → Opened want ls
  opens_word (wants.Block header) ls h = opened_block header ls h
  opens_word (wants.Tree end) ls h = opened_tree end ls h
  opens_word wants.HeaderNumber ls h = absurd (no_truth h)
  opens_word _ ls h = absurd (no_truth h)
