-- A block is taken from a text that may still be open, or none comes.
use Rattle.std.proofs.Common.{◌≡◌, ℕ, ◌<◌, ◌^◌, List, [], ◌∷◌, ◌++◌, length, refl, sym, ◌∙◌, ap, arith, length-append, ◌-◌}
use Rattle.std.specs.Prelude.{Some}
use Rattle.st_form.specs.Condition.{Implication}
use Rattle.st_certificate.specs.Tree.{Tree}
use Rattle.st_certificate.specs.Plain.{plain as tree_of}
use Rattle.farkas_check.specs.Problem.{Setting}
use Rattle.cert_text.specs.declared.reader.Block.{Block}
use Rattle.cert_text.specs.Reading.{State, going, malformed, over, whole}
use Rattle.cert_text.specs.Tree.{last_tree}
use Rattle.cert_text.specs.Held.{Held, outcome, answer_of, answer_at, taken_from, taken_at}
use Rattle.cert_text.specs.Answer.{Answer, block, need, no_more, malformed_at, limit_at}
use Rattle.cert_laws.specs.Laws.{closed, MayFollow, AnswersStay, ReadIsSpelled}
use Rattle.step_report.specs.declared.conditions.Reason.{Reason}
use Rattle.step_report.specs.declared.conditions.Reason.TheVariants.{Absent, Malformed, OverLimit}
use Rattle.block_laws.specs.Laws.{BlocksAreLimited}
use Rattle.block_laws.specs.Checked.{reason_of, block_tested, pending_from}
use Rattle.block_laws.proofs.Pending.{pend_more}
use Rattle.certificate_batches.specs.declared.turns.Turn.TheVariants.{Lacks}
use Rattle.certificate_batches.specs.Turns.{reach, IsTaken, IsTurn}

pub block_not_need : (n : ℕ) (t : Tree) (a : Answer) → a ≡ block n t → a ≡ need → ⊥
block_not_need n t a e f = cc

module _ (stay : AnswersStay) (h : Held) (rest : List ℕ) (may : MayFollow h rest) where
  -- it waits behind those that wait already
  waits : (k : Setting) (number : ℕ) (cs : List Implication) (ts : List Tree) (m : ℕ) (t : Tree) → answer_of h ≡ block m t → length ts < length cs
      → pending_from k number cs (ts ++ t ∷ []) (closed (taken_from h) rest) ≡ pending_from k number cs ts (closed h rest)
  waits k number cs ts m t is left =
      let s = stay h rest may (block_not_need m t (answer_of h) is) in
      ap (λ (x : Held). pending_from k number cs (ts ++ t ∷ []) x) (sym s.left) ∙ pend_more k number cs ts t m (closed h rest) left (s.answer ∙ is)

  -- none comes
  pub lacking : (k : Setting) (c : Implication) (a : Answer) (reason : Reason) → answer_of h ≡ a → (a ≡ need → ⊥) → reason_of k c a ≡ Some reason
      → block_tested k c (closed h rest) ≡ Some reason
  unfolding block_tested
  lacking k c a reason is more because = ap (reason_of k c) ((stay h rest may (λ e. more (sym is ∙ e))).answer ∙ is) ∙ because

-- then nothing is taken
kept_at : (s : State) (h : Held) → ((n : ℕ) (t : Tree) → answer_at s h ≡ block n t → ⊥) → taken_at s h ≡ h
kept_at (going scan built pending) h none = refl
kept_at (malformed place) h none = refl
kept_at (over place) h none = refl
kept_at (whole end scan built) h none = absurd (none h.number (last_tree built.trees) refl)

pub kept : (h : Held) (a : Answer) → answer_of h ≡ a → ((n : ℕ) (t : Tree) → a ≡ block n t → ⊥) → taken_from h ≡ h
kept h a is none = kept_at (outcome h) h (λ n t e. none n t (sym is ∙ e))

pub end_no_need : no_more ≡ need → ⊥
end_no_need e = cc

end_no_block : (n : ℕ) (t : Tree) → no_more ≡ block n t → ⊥
end_no_block n t e = cc

pub malformed_no_need : (p : ℕ) → malformed_at p ≡ need → ⊥
malformed_no_need p e = cc

malformed_no_block : (p n : ℕ) (t : Tree) → malformed_at p ≡ block n t → ⊥
malformed_no_block p n t e = cc

pub limit_no_need : (p : ℕ) → limit_at p ≡ need → ⊥
limit_no_need p e = cc

limit_no_block : (p n : ℕ) (t : Tree) → limit_at p ≡ block n t → ⊥
limit_no_block p n t e = cc

module _ (stay : AnswersStay) (before now : Held) (left : now ≡ taken_from before) where
  pub lacks_end : answer_of before ≡ no_more → IsTurn before now (Lacks Absent)
  lacks_end is = (left ∙ kept before no_more is end_no_block, λ k c rest may. lacking stay before rest may k c no_more Absent is end_no_need refl)

  pub lacks_malformed : (p : ℕ) → answer_of before ≡ malformed_at p → IsTurn before now (Lacks Malformed)
  lacks_malformed p is =
      (left ∙ kept before (malformed_at p) is (malformed_no_block p), λ k c rest may. lacking stay before rest may k c (malformed_at p) Malformed is (malformed_no_need p) refl)

  pub lacks_limit : (p : ℕ) → answer_of before ≡ limit_at p → IsTurn before now (Lacks OverLimit)
  lacks_limit p is =
      (left ∙ kept before (limit_at p) is (limit_no_block p), λ k c rest may. lacking stay before rest may k c (limit_at p) OverLimit is (limit_no_need p) refl)

pub block_taken : AnswersStay → BlocksAreLimited → ReadIsSpelled → (before now : Held) (b : Block) → before.number < 2 ^ 32 - 1 → answer_of before ≡ block b.number (tree_of b.certificate) → now ≡ taken_from before → IsTaken before now b
block_taken stay limited spelled before now b few is left =
    let s = spelled before b.number (tree_of b.certificate) (omega (arith, few)) is in
    let here = left ∙ s.11 in
    record {
      limited = limited before b.number (tree_of b.certificate) is;
      number = ap (λ (h : Held). h.number) here;
      finished = ap (λ (h : Held). h.finished) here;
      reached = omega (arith, ap reach here, ap length s.5, length-append s.2 (s.3 ++ s.4), length-append s.3 s.4);
      waits = λ k number cs ts rest may short.
          ap (λ (x : Held). pending_from k number cs (ts ++ tree_of b.certificate ∷ []) (closed x rest)) left ∙ waits stay before rest may k number cs ts b.number (tree_of b.certificate) is short;
    }
