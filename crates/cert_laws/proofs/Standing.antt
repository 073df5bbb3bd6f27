-- The answer by where what is held leads as it stands: a finished text, with a blank behind it.
use Rattle.std.proofs.Common.{◌≡◌, ℕ, ◌+◌, Bool, true, false, cond, ◌||◌, [], ◌∷◌, ◌++◌, length, refl, sym, ap, ◌∙◌, Option, Some, None, ◌==◌, nat_lt, nat_le}
use Rattle.cert_text.specs.declared.scan.Word.{Word}
use Rattle.cert_text.specs.declared.scan.Word.TheVariants as words
use Rattle.cert_text.specs.declared.scan.Token.TheVariants as tokens
use Rattle.cert_text.specs.declared.scan.Want.{Want}
use Rattle.cert_text.specs.declared.scan.Want.TheVariants as wants
use Rattle.cert_text.specs.declared.scan.Scan.{Scan}
use Rattle.cert_text.specs.declared.scan.Given.{Given}
use Rattle.cert_text.specs.declared.scan.Given.TheVariants as givens
use Rattle.cert_text.specs.declared.progress.Stage.TheVariants as stages
use Rattle.cert_text.specs.Control.{give, give_at, word_of, is_full}
use Rattle.cert_text.specs.Tree.{Built, applied, last_tree}
use Rattle.cert_text.specs.Reading.{State, going, malformed, over, whole, idle, letters, digits, step, after, start, staged, is_whole, token_taken, word_ended, and_begun}
use Rattle.cert_text.specs.Answer.{Answer, block, need, malformed_at, limit_at, at_end, judged, word_judged, blank_end}
use Rattle.cert_text.specs.Held.{Held, answer_of, answer_at, outcome}
use Rattle.cert_text.proofs.Stopping.{after-append}
use Rattle.cert_laws.specs.Refused.{standing}
use Rattle.cert_laws.proofs.Givens.{OnlyOn, on_if}

no_truth : false ≡ true → ⊥
no_truth h = cc

-- where nothing is pending a finished text ends here
abbrev pub settled : Held → State → Answer
settled h (going s b p) = cond h.finished (blank_end s.want (h.place + length h.bytes)) need
settled h (malformed place) = malformed_at place
settled h (over place) = limit_at place
settled h (whole end s b) = block h.number (last_tree b.trees)

-- a word or a number ends no block, and no header
abbrev GoesOn : Scan → Type 0
GoesOn s = (is_whole s.want ≡ false) × ((end : ℕ) → blank_end s.want end ≡ malformed_at end)

number_goes : (want : Want) (scan : Scan) (n : ℕ) → OnlyOn GoesOn (give_at want scan (tokens.Number n))
number_goes wants.HeaderNumber scan n = on_if GoesOn (n == 2) _ _ (λ e. (refl, λ k. refl)) (λ e. tt)
number_goes wants.BlockNumber scan n = on_if GoesOn (n == scan.number) _ _ (λ e. (refl, λ k. refl)) (λ e. tt)
number_goes (wants.Subject branching) scan n = on_if GoesOn (n == 0) _ _ (λ e. tt) (λ e. on_if GoesOn (nat_lt 4294967295 n) _ _ (λ o. tt) (λ o. (refl, λ k. refl)))
number_goes (wants.Row signed count) scan n = on_if GoesOn (n == 0) _ _ (λ e. tt) (λ e. on_if GoesOn (nat_lt 4294967295 n || nat_le 4096 count) _ _ (λ o. tt) (λ o. (refl, λ k. refl)))
number_goes (wants.Multiplier signed count row) scan n = on_if GoesOn (nat_le 1099511627776 n) _ _ (λ o. tt) (λ o. (refl, λ k. refl))
number_goes (wants.Negative count row) scan n = on_if GoesOn (nat_le 1099511627776 n) _ _ (λ o. tt) (λ o. (refl, λ k. refl))
number_goes (wants.Coefficient first negative last) scan n = on_if GoesOn (n == 0) _ _ (λ e. tt) (λ e. on_if GoesOn (nat_lt 1152921504606846976 n) _ _ (λ o. tt) (λ o. (refl, λ k. refl)))
number_goes (wants.Variable negative size last) scan n = on_if GoesOn (nat_le n last) _ _ (λ e. tt) (λ e. on_if GoesOn (nat_lt 4294967295 n) _ _ (λ o. tt) (λ o. (refl, λ k. refl)))
number_goes (wants.Constant negative) scan n = on_if GoesOn (nat_lt 1152921504606846976 n) _ _ (λ o. tt) (λ o. (refl, λ k. refl))
number_goes _ scan n = tt

block_goes : (header : Bool) (scan : Scan) (w : Word) → OnlyOn GoesOn (give_at (wants.Block header) scan (tokens.Word w))
block_goes header scan words.Cert = (refl, λ k. refl)
block_goes header scan words.Version = on_if GoesOn header _ _ (λ e. (refl, λ k. refl)) (λ e. tt)
block_goes header scan words.Absurd = tt
block_goes header scan words.Farkas = tt
block_goes header scan words.Linear = tt
block_goes header scan words.Case = tt
block_goes header scan words.Truth = tt
block_goes header scan words.Split = tt
block_goes header scan words.Cut = tt

tree_goes : (end : Bool) (scan : Scan) (w : Word) → OnlyOn GoesOn (give_at (wants.Tree end) scan (tokens.Word w))
tree_goes end scan words.Version = tt
tree_goes end scan words.Cert = tt
tree_goes end scan words.Absurd = on_if GoesOn (is_full scan) _ _ (λ e. tt) (λ e. on_if GoesOn (scan.depth == 0) _ _ (λ z. (refl, λ k. refl)) (λ z. (refl, λ k. refl)))
tree_goes end scan words.Farkas = on_if GoesOn (is_full scan) _ _ (λ e. tt) (λ e. (refl, λ k. refl))
tree_goes end scan words.Linear = on_if GoesOn scan.second _ _ (λ v. on_if GoesOn (is_full scan) _ _ (λ e. tt) (λ e. (refl, λ k. refl))) (λ v. tt)
tree_goes end scan words.Case = on_if GoesOn (is_full scan) _ _ (λ e. tt) (λ e. (refl, λ k. refl))
tree_goes end scan words.Truth = on_if GoesOn (is_full scan) _ _ (λ e. tt) (λ e. (refl, λ k. refl))
tree_goes end scan words.Split = on_if GoesOn (is_full scan) _ _ (λ e. tt) (λ e. (refl, λ k. refl))
tree_goes end scan words.Cut = on_if GoesOn (is_full scan) _ _ (λ e. tt) (λ e. (refl, λ k. refl))

word_goes : (want : Want) (scan : Scan) (w : Word) → OnlyOn GoesOn (give_at want scan (tokens.Word w))
word_goes (wants.Block header) scan w = block_goes header scan w
word_goes (wants.Tree end) scan w = tree_goes end scan w
word_goes wants.HeaderNumber scan w = tt
word_goes _ scan w = tt

open_answer : (h : Held) (q : State) → h.finished ≡ false → answer_at q h ≡ settled h q
open_answer h (going s b p) f = ap (λ c. cond c (at_end s p (h.place + length h.bytes)) need) f ∙ ap (λ c. cond c (blank_end s.want (h.place + length h.bytes)) need) (sym f)
open_answer h (malformed place) f = refl
open_answer h (over place) f = refl
open_answer h (whole end s b) f = refl

-- a last token, ended by the end of the text
token_answer : (h : Held) (g : Given) (start at : ℕ) (built : Built) → h.finished ≡ true → OnlyOn GoesOn g → judged g start (h.place + length h.bytes) ≡ settled h (and_begun at 32 (token_taken start at g built))
token_answer h (givens.On s a) start at built f o =
    sym (ap (λ w. settled h (and_begun at 32 (staged (cond w (stages.Whole at) stages.Going) s (applied a built) idle))) o.0
    ∙ ap (λ c. cond c (blank_end s.want (h.place + length h.bytes)) need) f ∙ o.1 (h.place + length h.bytes))
token_answer h givens.Wrong start at built f o = refl
token_answer h givens.Over start at built f o = refl

word_answer : (h : Held) (s : Scan) (w : Option Word) (start at : ℕ) (built : Built) → h.finished ≡ true → word_judged s w start (h.place + length h.bytes) ≡ settled h (and_begun at 32 (word_ended start at s built w))
word_answer h s (Some w) start at built f = token_answer h (give s (tokens.Word w)) start at built f (word_goes s.want s w)
word_answer h s None start at built f = refl

closed_answer : (h : Held) (q : State) (at : ℕ) → h.finished ≡ true → answer_at q h ≡ settled h (step at q 32)
unfolding step
closed_answer h (going s b idle) at f = refl
closed_answer h (going s b (letters st ls)) at f = ap (λ c. cond c (word_judged s (word_of ls) st (h.place + length h.bytes)) need) f ∙ word_answer h s (word_of ls) st at b f
closed_answer h (going s b (digits st n)) at f = ap (λ c. cond c (judged (give s (tokens.Number n)) st (h.place + length h.bytes)) need) f ∙ token_answer h (give s (tokens.Number n)) st at b f (number_goes s.want s n)
closed_answer h (malformed place) at f = refl
closed_answer h (over place) at f = refl
closed_answer h (whole end s b) at f = refl

pub standing_answer : (h : Held) → answer_of h ≡ settled h (after h.place (start h.number h.second) (standing h))
standing_answer h = by h.finished refl where
  by : (c : Bool) → h.finished ≡ c → answer_of h ≡ settled h (after h.place (start h.number h.second) (cond c (h.bytes ++ 32 ∷ []) h.bytes))
  by false f = open_answer h (outcome h) f
  by true f = closed_answer h (outcome h) (h.place + length h.bytes) f ∙ ap (settled h) (sym (after-append h.place (start h.number h.second) h.bytes (32 ∷ [])))

-- a blank ends no block

token_whole : (g : Given) (start at stop : ℕ) (built : Built) (s2 : Scan) (b2 : Built) → OnlyOn GoesOn g → and_begun at 32 (token_taken start at g built) ≡ whole stop s2 b2 → ⊥
token_whole (givens.On s a) start at stop built s2 b2 o e = apart (sym (ap (λ w. and_begun at 32 (staged (cond w (stages.Whole at) stages.Going) s (applied a built) idle)) o.0) ∙ e) where
  apart : going s (applied a built) idle ≡ whole stop s2 b2 → ⊥
  apart q = cc
token_whole givens.Wrong start at stop built s2 b2 o e = apart e where
  apart : malformed start ≡ whole stop s2 b2 → ⊥
  apart q = cc
token_whole givens.Over start at stop built s2 b2 o e = apart e where
  apart : over start ≡ whole stop s2 b2 → ⊥
  apart q = cc

word_whole : (s : Scan) (w : Option Word) (start at stop : ℕ) (built : Built) (s2 : Scan) (b2 : Built) → and_begun at 32 (word_ended start at s built w) ≡ whole stop s2 b2 → ⊥
word_whole s (Some w) start at stop built s2 b2 e = token_whole (give s (tokens.Word w)) start at stop built s2 b2 (word_goes s.want s w) e
word_whole s None start at stop built s2 b2 e = apart e where
  apart : malformed start ≡ whole stop s2 b2 → ⊥
  apart q = cc

pub blank_whole : (q : State) (at stop : ℕ) (s2 : Scan) (b2 : Built) → step at q 32 ≡ whole stop s2 b2 → q ≡ whole stop s2 b2
unfolding step
blank_whole (going s b idle) at stop s2 b2 e = e
blank_whole (going s b (letters st ls)) at stop s2 b2 e = absurd (word_whole s (word_of ls) st at stop b s2 b2 e)
blank_whole (going s b (digits st n)) at stop s2 b2 e = absurd (token_whole (give s (tokens.Number n)) st at stop b s2 b2 (number_goes s.want s n) e)
blank_whole (malformed place) at stop s2 b2 e = e
blank_whole (over place) at stop s2 b2 e = e
blank_whole (whole stop1 s b) at stop s2 b2 e = e
