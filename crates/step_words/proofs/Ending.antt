-- What clap finds behind the walk over the words of a named form.
use Rattle.std.proofs.Common.{ℕ, List, [], ◌∷◌, ◌≡◌, refl, ◌∙◌, ap, true, false, eqb, codes}
use Rattle.std.specs.Prelude.{Some, is_some, pos}
use Rattle.clap.specs.Words.{Text, all_of, fault_of, first_of, matches_of, built}
use Rattle.clap.specs.Walk.{Walk, settled, finished}
use Rattle.clap.specs.Simple.{entered}
use Rattle.clap.specs.Faults.{entered_fault, settle_fault, defaults_fault, check_fault}
use Rattle.clap.specs.Kinds.{Kinds, or_else}
use Rattle.clap.specs.ValueTests.{is_signed_in}
use Rattle.clap.proofs.OnLiterals.{clap_on_literals}
use Rattle.step_words.specs.Definition.{step_app}
use Rattle.step_words.specs.Request.{request_of, request_for}
use Rattle.step_words.proofs.Walking.{Few, Walks, behind_names, behind_number, rules, shape, start}

-- what may fail behind the walk
abbrev pub behind_walk : Walk → Kinds
behind_walk w = or_else (entered_fault (built step_app) w.stopped)
    (or_else (settle_fault shape.rules shape.args_override_self w.held)
    (or_else (defaults_fault (settled shape.rules w.held).rows shape.rules)
    (check_fault shape (finished shape.rules w.held) (is_some (entered (built step_app) w.stopped)))))

-- with no option, and with a number of workers
module _ (k : ℕ) (ks : Text) (ek : eqb k 45 ≡ false) where
  pub plain_ok : (ns : List Text) → Few ns → behind_walk (behind_names (k ∷ ks) ns) ≡ []
  unfolding clap_on_literals
  plain_ok [] few = absurd few
  plain_ok (p ∷ []) few = refl
  plain_ok (p ∷ q ∷ []) few = refl
  plain_ok (p ∷ q ∷ c ∷ []) few = refl
  plain_ok (p ∷ q ∷ c ∷ d ∷ ds) few = absurd few

  pub number_ok : (ns : List Text) (v : Text) → Few ns → is_signed_in (pos 1) (pos 64) v ≡ true → behind_walk (behind_number (k ∷ ks) ns v) ≡ []
  unfolding clap_on_literals
  number_ok [] v few h = absurd few
  number_ok (p ∷ []) v few h = simp h
  number_ok (p ∷ q ∷ []) v few h = simp h
  number_ok (p ∷ q ∷ c ∷ []) v few h = simp h
  number_ok (p ∷ q ∷ c ∷ d ∷ ds) v few h = absurd few

  pub plain_command : (ns : List Text) → first_of (codes "command") (finished rules (behind_names (k ∷ ks) ns).held) ≡ Some (k ∷ ks)
  unfolding clap_on_literals
  plain_command ns = refl

  pub plain_names : (ns : List Text) → Few ns → all_of (codes "names") (finished rules (behind_names (k ∷ ks) ns).held) ≡ Some ns
  unfolding clap_on_literals
  plain_names [] few = absurd few
  plain_names (p ∷ []) few = refl
  plain_names (p ∷ q ∷ []) few = refl
  plain_names (p ∷ q ∷ c ∷ []) few = refl
  plain_names (p ∷ q ∷ c ∷ d ∷ ds) few = absurd few

  pub number_command : (ns : List Text) (v : Text) → first_of (codes "command") (finished rules (behind_number (k ∷ ks) ns v).held) ≡ Some (k ∷ ks)
  unfolding clap_on_literals
  number_command ns v = refl

  pub number_names : (ns : List Text) (v : Text) → all_of (codes "names") (finished rules (behind_number (k ∷ ks) ns v).held) ≡ Some ns
  unfolding clap_on_literals
  number_names ns v = refl

-- clap takes the words, and finds this command and these names
pub record Takes (words : List Text) (command : Text) (names : List Text) : Type 0 where
  pub taken : fault_of step_app words ≡ []
  pub command_is : first_of (codes "command") (matches_of step_app words) ≡ Some command
  pub names_are : all_of (codes "names") (matches_of step_app words) ≡ Some names

pub asks_for : (words : List Text) (command : Text) (names : List Text) → Takes words command names → request_of words ≡ request_for command names
asks_for words command names t = rw (t.taken, t.command_is, t.names_are) refl

-- from the walk to what clap answers
fault_by : (program : Text) (words : List Text) (end : Walk) → Walks start words end → behind_walk end ≡ [] → fault_of step_app (program ∷ words) ≡ []
fault_by program words end w none = rw (w.no_fault, w.there) none

rows_by : (program : Text) (words : List Text) (end : Walk) → Walks start words end → matches_of step_app (program ∷ words) ≡ finished rules end.held
rows_by program words end w = rw (w.there) refl

pub takes_by : (program : Text) (words : List Text) (end : Walk) (asked : Text) (names : List Text) → Walks start words end → behind_walk end ≡ []
    → first_of (codes "command") (finished rules end.held) ≡ Some asked → all_of (codes "names") (finished rules end.held) ≡ Some names → Takes (program ∷ words) asked names
takes_by program words end asked names w none first all = record {
  taken = fault_by program words end w none;
  command_is = ap (first_of (codes "command")) (rows_by program words end w) ∙ first;
  names_are = ap (all_of (codes "names")) (rows_by program words end w) ∙ all;
}
