-- Only what is spelled is read: a block that is answered is that of a text in front, which is within the limits.
use Rattle.std.proofs.Common.{◌≡◌, ℕ, ◌+◌, ◌<◌, ◌^◌, Bool, true, false, cond, ◌||◌, List, [], ◌∷◌, ◌++◌, length, refl, sym, ap, ◌∙◌, subst, arith, append_assoc}
use Rattle.st_certificate.specs.Tree.{Tree}
use Rattle.cert_text.specs.declared.scan.Want.{Want}
use Rattle.cert_text.specs.declared.scan.Want.TheVariants as wants
use Rattle.cert_text.specs.declared.scan.Scan.{Scan}
use Rattle.cert_text.specs.Tree.{Built}
use Rattle.cert_text.specs.Reading.{State, going, malformed, over, whole, after, start}
use Rattle.cert_text.specs.Answer.{Answer, block, need, blank_end}
use Rattle.cert_text.specs.Held.{Held, answer_of, taken_from}
use Rattle.cert_text.specs.Grammar.{Written, IsBlock, block_tokens, meaning, tree_over}
use Rattle.cert_text.proofs.Stopping.{after-append}
use Rattle.cert_laws.specs.Spelled.{Spells, IsFront}
use Rattle.cert_laws.specs.Refused.{standing}
use Rattle.cert_laws.proofs.BlockRead.{block-answered}
use Rattle.cert_laws.proofs.HeaderRead.{header-answered}
use Rattle.cert_laws.proofs.NeverWrong.{IsEnd, text_ends}
use Rattle.cert_laws.proofs.WrongTold.{whole_told}
use Rattle.cert_laws.proofs.Standing.{settled, standing_answer, blank_whole}
use Rattle.cert_laws.proofs.Apart.{block_need, block_end, block_wrong, block_limit}

abbrev number_in : ℕ → Answer → ℕ
number_in m (block n t) = n
number_in m _ = m

abbrev tree_in : Tree → Answer → Tree
tree_in u (block n t) = t
tree_in u _ = u

-- what reads as a text, behind a header or none
abbrev Read : Held → Bool → List ℕ → List ℕ → List ℕ → Written → Type 0
Read h header head bs rest w =
    (answer_of h ≡ block h.number (meaning w))
    × (taken_from h ≡ record h { bytes = rest; place = h.place + length head + length bs; number = h.number + 1; second = header || h.second })

front_read : (h : Held) (header : Bool) (head bs rest : List ℕ) (w : Written) → h.number < 2 ^ 32 → IsFront header h head → IsBlock h.number (header || h.second) w → Spells bs (block_tokens h.number w []) → h.bytes ≡ head ++ (bs ++ rest) → Read h header head bs rest w
front_read h true head bs rest w n f p s e = header-answered h w head bs rest f.0 f.1 f.2 p s e
front_read h false head bs rest w n f p s e =
    let r = block-answered h w bs rest n p s (e ∙ ap (λ l. l ++ (bs ++ rest)) f) in
    (r.0, r.1 ∙ ap (λ m. record h { bytes = rest; place = m; number = h.number + 1 }) (let z : h.place + length bs ≡ h.place + 0 + length bs = omega arith in z) ∙ ap (λ l. record h { bytes = rest; place = h.place + length l + length bs; number = h.number + 1 }) (sym f))

-- a block that is answered was read whole, before the end of the text too

abbrev Whole : Held → Type 0
Whole h = (end : ℕ) × (s : Scan) × (b : Built) × (after h.place (start h.number h.second) h.bytes ≡ whole end s b)

no_block : (want : Want) (end n : ℕ) (t : Tree) → blank_end want end ≡ block n t → ⊥
no_block (wants.Block header) end n t e = block_end n t (sym e)
no_block wants.HeaderNumber end n t e = block_wrong n t end (sym e)
no_block _ end n t e = block_wrong n t end (sym e)

never : (c : Bool) (want : Want) (end n : ℕ) (t : Tree) → cond c (blank_end want end) need ≡ block n t → ⊥
never true want end n t e = no_block want end n t e
never false want end n t e = block_need n t (sym e)

whole_standing : (h : Held) (end : ℕ) (s : Scan) (b : Built) → after h.place (start h.number h.second) (standing h) ≡ whole end s b → Whole h
whole_standing h end s b e = by h.finished e where
  by : (c : Bool) → after h.place (start h.number h.second) (cond c (h.bytes ++ 32 ∷ []) h.bytes) ≡ whole end s b → Whole h
  by false f = (end, s, b, f)
  by true f = (end, s, b, blank_whole (after h.place (start h.number h.second) h.bytes) (h.place + length h.bytes) end s b (sym (after-append h.place (start h.number h.second) h.bytes (32 ∷ [])) ∙ f))

was_whole : (h : Held) (n : ℕ) (t : Tree) (q : State) → after h.place (start h.number h.second) (standing h) ≡ q → settled h q ≡ block n t → Whole h
was_whole h n t (going s b p) e a = absurd (never h.finished s.want (h.place + length h.bytes) n t a)
was_whole h n t (malformed place) e a = absurd (block_wrong n t place (sym a))
was_whole h n t (over place) e a = absurd (block_limit n t place (sym a))
was_whole h n t (whole end s b) e a = whole_standing h end s b e

abbrev Spelled : Held → ℕ → Tree → Type 0
Spelled h n t =
    (header : Bool) × (w : Written) × (head : List ℕ) × (bs : List ℕ) × (rest : List ℕ) × (h.bytes ≡ head ++ (bs ++ rest))
    × IsFront header h head × Spells bs (block_tokens h.number w []) × IsBlock h.number (header || h.second) w
    × (n ≡ h.number) × (t ≡ meaning w)
    × (taken_from h ≡ record h { bytes = rest; place = h.place + length head + length bs; number = h.number + 1; second = header || h.second })

pub read-spelled : (h : Held) (n : ℕ) (t : Tree) → h.number < 2 ^ 32 → answer_of h ≡ block n t → Spelled h n t
read-spelled h n t l a =
    let q = was_whole h n t (after h.place (start h.number h.second) (standing h)) refl (sym (standing_answer h) ∙ a) in
    let d = whole_told h l h.bytes q.0 q.1 q.2 q.3 in
    let x = d.3 in
    let w = x.3 in
    let ends = subst (IsEnd (tree_over 0 0 w) (h.place + length d.0)) (ap (after h.place (start h.number h.second)) (sym d.2) ∙ q.3) (text_ends h d.0 d.1 l x) in
    let text = d.2 ∙ ap (λ k. k ++ d.1) x.4 ∙ append_assoc x.1 x.2 d.1 in
    let r = front_read h x.0 x.1 x.2 d.1 w l x.5 (record { proper = x.6; within = ends.1 }) x.7 text in
    let same = sym a ∙ r.0 in
    (x.0, w, x.1, x.2, d.1, text, x.5, x.7, record { proper = x.6; within = ends.1 }, ap (number_in n) same, ap (tree_in t) same, r.1)
