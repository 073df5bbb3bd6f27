-- From each point that the machine reaches within a text, bytes lead on to a block: behind blanks, and in the midst of a word or
-- of a number that the machine has not refused.
use Rattle.std.proofs.Common.{◌≡◌, ℕ, zero, suc, ◌+◌, ◌*◌, ◌^◌, ◌<◌, Bool, true, false, ◌⊎◌, inl, inr, List, [], ◌∷◌, ◌++◌, refl, sym, ap, ◌∙◌, subst, arith}
use Rattle.std.proofs.Math.Nat.{pow-suc}
use Rattle.cert_text.specs.declared.scan.Word.TheVariants as words
use Rattle.cert_text.specs.declared.scan.Token.{Token}
use Rattle.cert_text.specs.declared.scan.Token.TheVariants as tokens
use Rattle.cert_text.specs.declared.scan.Want.{Want}
use Rattle.cert_text.specs.declared.scan.Want.TheVariants as wants
use Rattle.cert_text.specs.declared.scan.Given.{Given}
use Rattle.cert_text.specs.declared.scan.Given.TheVariants as givens
use Rattle.cert_text.specs.Control.{give_at}
use Rattle.cert_text.specs.Letters.{is_blank}
use Rattle.cert_text.specs.Reading.{is_whole}
use Rattle.cert_text.specs.Run.{scan_at}
use Rattle.cert_text.specs.Spelling.{digits_in}
use Rattle.cert_laws.specs.Spelled.{letters_of, AreAll, IsSpelling, EndsAt, Spells}
use Rattle.cert_laws.proofs.Givens.{is_inside}
use Rattle.cert_laws.proofs.Writing.{digits_are}
use Rattle.cert_laws.proofs.Ends.{Completes, AreSpellable, IsStarted, ending, ending_starts}
use Rattle.cert_laws.proofs.Leads.{Leads, leads}
use Rattle.cert_laws.proofs.Tails.{in_front, Tail, Inside, inside_to, ABlock, ANumber, ABehind, begins_block}

no_truth : false ≡ true → ⊥
no_truth h = cc

-- a spelling of tokens, with a blank in front of each

pub wide : (n : ℕ) → n < 10 ^ (n + 1)
wide zero = omega arith
wide (suc n) =
    let e = wide n in
    let p : 10 ^ (suc n + 1) ≡ 10 ^ (n + 1) * 10 = ap (λ m. 10 ^ m) (let q : suc n + 1 ≡ suc (n + 1) = omega arith in q) ∙ pow-suc 10 (n + 1) in
    omega (arith, e, p)

-- nothing, or a blank first
abbrev pub IsClear : List ℕ → Type 0
IsClear bs = (bs ≡ []) ⊎ ((more : List ℕ) × (bs ≡ 32 ∷ more))

pub clear_ends : (t : Token) (bs : List ℕ) → IsClear bs → EndsAt t bs
clear_ends t bs (inl e) = subst (EndsAt t) (sym e) (none t) where
  none : (u : Token) → EndsAt u []
  none u = tt
clear_ends t bs (inr e) = subst (EndsAt t) (sym e.1) (blank t e.0) where
  blank : (u : Token) (more : List ℕ) → EndsAt u (32 ∷ more)
  blank (tokens.Word w) more = refl
  blank (tokens.Number n) more = refl
  blank (tokens.Sign c) more = tt

abbrev Text : List Token → Type 0
Text ks = (bs : List ℕ) × Spells bs ks × IsClear bs

abbrev Started : List ℕ → List Token → Type 0
Started blanks ks = (bs : List ℕ) × Spells (blanks ++ bs) ks

spell_one : (blanks : List ℕ) (t : Token) (cs : List ℕ) (ks : List Token) → AreAll is_blank blanks → IsSpelling cs t → Text ks → Started blanks (t ∷ ks)
spell_one blanks t cs ks b sp h = (cs ++ h.0, in_front blanks cs h.0 t ks b sp (clear_ends t h.0 h.2) h.1)

spell_first : (blanks : List ℕ) (t : Token) (ks : List Token) → AreAll is_blank blanks → AreSpellable (t ∷ ks) → (AreSpellable ks → Text ks) → Started blanks (t ∷ ks)
spell_first blanks (tokens.Word w) ks b h more = spell_one blanks (tokens.Word w) (letters_of w) ks b refl (more h)
spell_first blanks (tokens.Number n) ks b h more = spell_one blanks (tokens.Number n) (digits_in n n) ks b (digits_are n n (wide n)) (more h)
spell_first blanks (tokens.Sign c) ks b h more = spell_one blanks (tokens.Sign c) (c ∷ []) ks b (refl, h.0) (more h.1)

pub spell : (ks : List Token) → AreSpellable ks → Text ks
spell [] h = ([], refl, inl refl)
spell (t ∷ ks) h = let f = spell_first (32 ∷ []) t ks (refl, tt) h (spell ks) in (32 ∷ f.0, f.1, inr (f.0, refl))

spell_starts : (blanks : List ℕ) (ks : List Token) → AreAll is_blank blanks → AreSpellable ks → IsStarted ks → Started blanks ks
spell_starts blanks ks b h s = subst (Started blanks) (sym s.2) (spell_first blanks s.0 s.1 b (subst AreSpellable s.2 h) (spell s.1))

abbrev pub is_wrong : Given → Bool
is_wrong (givens.On s a) = false
is_wrong givens.Wrong = true
is_wrong givens.Over = false

module _ (number : ℕ) where
  -- what completes a text, behind blanks

  pub number_starts : (second : Bool) (d : ℕ) (blanks : List ℕ) → AreAll is_blank blanks → (bs : List ℕ) × Inside number second wants.BlockNumber d (blanks ++ bs)
  number_starts second d blanks b =
      let e = ending number second wants.BlockNumber d in
      let s = spell_starts blanks e.0 b e.2 (ending_starts number second wants.BlockNumber d refl refl) in
      (s.0, (e.0, s.1, e.1))

  block_starts : (second : Bool) (d : ℕ) (blanks : List ℕ) → AreAll is_blank blanks → (bs : List ℕ) × ABlock number second d (blanks ++ bs)
  block_starts second d blanks b = let n = number_starts second d (32 ∷ []) (refl, tt) in (letters_of words.Cert ++ 32 ∷ n.0, begins_block number second d blanks (letters_of words.Cert) (32 ∷ n.0) b refl refl n.1)

  pub behind_starts : (d : ℕ) (blanks : List ℕ) → AreAll is_blank blanks → (bs : List ℕ) × ABehind number d (blanks ++ bs)
  behind_starts d blanks b = let c = block_starts true d (32 ∷ []) (refl, tt) in (59 ∷ 32 ∷ c.0, (blanks, 32 ∷ c.0, refl, b, c.1))

  pub header_number_starts : (d : ℕ) (blanks : List ℕ) → AreAll is_blank blanks → (bs : List ℕ) × ANumber number d (blanks ++ bs)
  header_number_starts d blanks b = let c = behind_starts d (32 ∷ []) (refl, tt) in (50 ∷ 32 ∷ c.0, (blanks, 32 ∷ c.0, refl, b, c.1))

  inside_starts : (second : Bool) (want : Want) (d : ℕ) (blanks : List ℕ) → AreAll is_blank blanks → is_inside want ≡ true → is_whole want ≡ false → (bs : List ℕ) × Tail number second want d (blanks ++ bs)
  inside_starts second want d blanks b i w =
      let e = ending number second want d in
      let s = spell_starts blanks e.0 b e.2 (ending_starts number second want d i w) in
      (s.0, inside_to number second want d (blanks ++ s.0) i (e.0, s.1, e.1))

  pub tail_starts : (second : Bool) (want : Want) (d : ℕ) (blanks : List ℕ) → AreAll is_blank blanks → is_whole want ≡ false → (bs : List ℕ) × Tail number second want d (blanks ++ bs)
  tail_starts second (wants.Block header) d blanks b w = let c = block_starts second d blanks b in (c.0, inl c.1)
  tail_starts second wants.HeaderNumber d blanks b w = header_number_starts d blanks b
  tail_starts second wants.HeaderEnd d blanks b w = behind_starts d blanks b
  tail_starts second want d blanks b w = inside_starts second want d blanks b refl w

  -- behind a token that may stand next, or passes a limit

  followed : (second : Bool) (p : List Token → Type 0) (t : Token) (g : Given) → is_wrong g ≡ false → Leads number second p t g → (ks : List Token) × p (t ∷ ks) × AreSpellable ks
  followed second p t (givens.On s a) w l = let e = ending number second s.want s.depth in (e.0, l e.0 e.1, e.2)
  followed second p t givens.Wrong w l = absurd (no_truth (sym w))
  followed second p t givens.Over w l = l

  pub token_tail : (second : Bool) (want : Want) (d trees : ℕ) (t : Token) (blanks cs : List ℕ) → is_inside want ≡ true → is_wrong (give_at want (scan_at number second want d trees) t) ≡ false → AreAll is_blank blanks → IsSpelling cs t → (rest : List ℕ) × Tail number second want d (blanks ++ (cs ++ rest)) × IsClear rest
  token_tail second want d trees t blanks cs i w b sp =
      let f = followed second (Completes number second want d) t (give_at want (scan_at number second want d trees) t) w (leads number second want d trees t i) in
      let s = spell f.0 f.2 in
      (s.0, inside_to number second want d (blanks ++ (cs ++ s.0)) i (t ∷ f.0, in_front blanks cs s.0 t f.0 b sp (clear_ends t s.0 s.2) s.1, f.1), s.2)
