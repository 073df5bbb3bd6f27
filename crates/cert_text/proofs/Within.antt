use Rattle.std.proofs.Common.{◌≡◌, ℕ, ◌+◌, ◌≤◌, Bool, true, false, cond, List, [], ◌∷◌, Option, Some, None, length, drop, sym, ap, ◌∙◌, subst, arith, nat_lt, ◌&&◌, ◌++◌}
use Rattle.cert_text.specs.declared.scan.Word.{Word}
use Rattle.cert_text.specs.declared.scan.Token.TheVariants as tokens
use Rattle.cert_text.specs.declared.scan.Scan.{Scan}
use Rattle.cert_text.specs.declared.scan.Given.{Given}
use Rattle.cert_text.specs.declared.scan.Given.TheVariants as givens
use Rattle.cert_text.specs.declared.progress.Progress.{Progress}
use Rattle.cert_text.specs.declared.progress.Stage.TheVariants as stages
use Rattle.cert_text.specs.Control.{give, fits_word, fits_number, word_of}
use Rattle.cert_text.specs.Letters.{is_blank, is_letter, is_digit, grown}
use Rattle.cert_text.specs.Tree.{Built, built_view}
use Rattle.cert_text.specs.Reading.{State, Pending, idle, letters, digits, going, malformed, over, whole, is_whole, staged, token_taken, word_ended, word_grown, number_grown, begun, and_begun, stepped, step, after, start, progress_view, pending_view}

-- a whole block ends between two places
abbrev pub IsWithin : ℕ → ℕ → State → Type 0
IsWithin lo hi (whole end scan built) = (lo ≤ end) × (end ≤ hi)
IsWithin lo hi (going scan built pending) = Unit {0}
IsWithin lo hi (malformed place) = Unit {0}
IsWithin lo hi (over place) = Unit {0}

within_if : (lo hi : ℕ) (b : Bool) (x y : State) → IsWithin lo hi x → IsWithin lo hi y → IsWithin lo hi (cond b x y)
within_if lo hi true x y p q = p
within_if lo hi false x y p q = q

staged_within : (lo hi end : ℕ) (b : Bool) (scan : Scan) (built : Built) (p : Pending) → lo ≤ end → end ≤ hi → IsWithin lo hi (staged (cond b (stages.Whole end) stages.Going) scan built p)
staged_within lo hi end true scan built p l h = (l, h)
staged_within lo hi end false scan built p l h = tt

taken_within : (lo hi begins end : ℕ) (g : Given) (built : Built) → lo ≤ end → end ≤ hi → IsWithin lo hi (token_taken begins end g built)
taken_within lo hi begins end (givens.On scan action) built l h = staged_within lo hi end (is_whole scan.want) scan _ idle l h
taken_within lo hi begins end givens.Wrong built l h = tt
taken_within lo hi begins end givens.Over built l h = tt

word_within : (lo hi begins end : ℕ) (scan : Scan) (built : Built) (w : Option Word) → lo ≤ end → end ≤ hi → IsWithin lo hi (word_ended begins end scan built w)
word_within lo hi begins end scan built (Some w) l h = taken_within lo hi begins end (give scan (tokens.Word w)) built l h
word_within lo hi begins end scan built None l h = tt

grown_within : (lo hi begins : ℕ) (scan : Scan) (built : Built) (ls : List ℕ) (b : ℕ) → IsWithin lo hi (word_grown begins scan built ls b)
grown_within lo hi begins scan built ls b = within_if lo hi (nat_lt (length ls) 8 && fits_word scan (ls ++ b ∷ [])) _ _ tt tt

number_within : (lo hi begins : ℕ) (scan : Scan) (built : Built) (n b : ℕ) → IsWithin lo hi (number_grown begins scan built n b)
number_within lo hi begins scan built n b = within_if lo hi (fits_number scan (grown n b)) _ _ tt tt

begun_within : (at b : ℕ) (scan : Scan) (built : Built) → IsWithin at (at + 1) (begun at b scan built)
begun_within at b scan built =
    within_if at (at + 1) (is_blank b) _ _ tt
    (within_if at (at + 1) (is_letter b) _ _ (grown_within at (at + 1) at scan built [] b)
    (within_if at (at + 1) (is_digit b) _ _ (number_within at (at + 1) at scan built 0 b)
    (taken_within at (at + 1) at (at + 1) (give scan (tokens.Sign b)) built (omega arith) (omega arith))))

and_within : (at b : ℕ) (s : State) → IsWithin at (at + 1) s → IsWithin at (at + 1) (and_begun at b s)
and_within at b (going scan built pending) h = begun_within at b scan built
and_within at b (malformed place) h = tt
and_within at b (over place) h = tt
and_within at b (whole end scan built) h = h

stepped_within : (at b : ℕ) (scan : Scan) (built : Built) (p : Pending) → IsWithin at (at + 1) (stepped at b scan built p)
stepped_within at b scan built idle = begun_within at b scan built
stepped_within at b scan built (letters begins ls) =
    within_if at (at + 1) (is_letter b) _ _ (grown_within at (at + 1) begins scan built ls b)
    (and_within at b (word_ended begins at scan built (word_of ls)) (word_within at (at + 1) begins at scan built (word_of ls) (omega arith) (omega arith)))
stepped_within at b scan built (digits begins n) =
    within_if at (at + 1) (is_digit b) _ _ (number_within at (at + 1) begins scan built n b)
    (and_within at b (token_taken begins at (give scan (tokens.Number n)) built) (taken_within at (at + 1) begins at (give scan (tokens.Number n)) built (omega arith) (omega arith)))

within_weaker : (lo hi lo' hi' : ℕ) (s : State) → lo ≤ lo' → hi' ≤ hi → IsWithin lo' hi' s → IsWithin lo hi s
within_weaker lo hi lo' hi' (whole end scan built) l h p = (omega arith, omega arith)
within_weaker lo hi lo' hi' (going scan built pending) l h p = tt
within_weaker lo hi lo' hi' (malformed place) l h p = tt
within_weaker lo hi lo' hi' (over place) l h p = tt

step_within : (lo at b : ℕ) (s : State) → lo ≤ at → IsWithin lo at s → IsWithin lo (at + 1) (step at s b)
unfolding step
step_within lo at b (going scan built pending) l h = within_weaker lo (at + 1) at (at + 1) (stepped at b scan built pending) l (omega arith) (stepped_within at b scan built pending)
step_within lo at b (malformed place) l h = tt
step_within lo at b (over place) l h = tt
step_within lo at b (whole end scan built) l h = (h.0, omega arith)

pub after_within : (lo at : ℕ) (s : State) (bs : List ℕ) → lo ≤ at → IsWithin lo at s → IsWithin lo (at + length bs) (after at s bs)
after_within lo at s [] l h = let e : at ≡ at + 0 = omega arith in subst (λ n. IsWithin lo n s) e h
after_within lo at s (b ∷ bs) l h =
    let e : at + 1 + length bs ≡ at + length (b ∷ bs) = omega arith in
    subst (λ n. IsWithin lo n (after (at + 1) (step at s b) bs)) e (after_within lo (at + 1) (step at s b) bs (omega arith) (step_within lo at b s l h))

-- a block that the bytes hold ends within them
pub block_within : (place end number : ℕ) (second : Bool) (bs : List ℕ) (scan : Scan) (built : Built) → after place (start number second) bs ≡ whole end scan built → (place ≤ end) × (end ≤ place + length bs)
block_within place end number second bs scan built e = subst (IsWithin place (place + length bs)) e (after_within place place (start number second) bs (omega arith) tt)

-- the same of the progress of the code
pub ends_within : (place end number taken : ℕ) (second : Bool) (items : List ℕ) (p : Progress) → progress_view p ≡ after place (start number second) (drop taken items) → p.stage ≡ stages.Whole end → (place ≤ end) × (end ≤ place + length (drop taken items))
ends_within place end number taken second items p e is =
    block_within place end number second (drop taken items) p.scan (built_view p.building) (sym e ∙ ap (λ s. staged s p.scan (built_view p.building) (pending_view p.pending p.letters)) is)
