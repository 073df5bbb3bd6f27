-- How clap walks over the words of a named form: the command, one to three names, the option and its number.
use Rattle.std.proofs.Common.{ℕ, List, [], ◌∷◌, ◌++◌, ◌≡◌, ◌≢◌, refl, ◌∙◌, ap, subst, sym, false, eqb, arith, codes, append-nil, append_assoc}
use Rattle.std.proofs.lemmas.Bool.Decides.{nat_tests}
use Rattle.std.specs.Prelude.{Some, None, fold}
use Rattle.clap.specs.Words.{Text, Rule, Row, built}
use Rattle.clap.specs.Walk.{Walk, Names, positional, idle, option, walked, walk_from, nothing_held}
use Rattle.clap.specs.Simple.{Shape}
use Rattle.clap.specs.Faults.{turn_fault, walk_fault}
use Rattle.clap.specs.Kinds.{Kinds, or_else}
use Rattle.clap.specs.declared.parser.matches.ValueSource.TheVariants.{CommandLine}
use Rattle.clap.specs.declared.builder.value_parser.Reading.TheVariants.{AsWritten}
use Rattle.clap.proofs.OnLiterals.{clap_on_literals}
use Rattle.step_words.specs.Definition.{step_app}
use Rattle.step_words.specs.Forms.{IsFileName}

pub no_hyphen : (b : ℕ) → b ≢ 45 → eqb b 45 ≡ false
no_hyphen b ne = grind (arith, nat_tests)

-- what a parse reads of the definition
abbrev pub shape : Shape
shape = (built step_app).top

abbrev pub rules : List Rule
rules = shape.rules

-- the walk before the first word, behind the command, behind some names, behind the option's word, and behind its number
abbrev pub start : Walk
start = walk_from nothing_held

abbrev at_command : Text → Walk
at_command command = walked rules [] start command

abbrev command_row : Text → Row
command_row command = record { id = codes "command"; values = command ∷ []; count = None; source = Some CommandLine; reading = AsWritten }

abbrev names_row : List Text → Row
names_row names = record { id = codes "names"; values = names; count = None; source = Some CommandLine; reading = AsWritten }

abbrev pub behind_names : Text → List Text → Walk
behind_names command names = record {
  held = record { rows = command_row command ∷ []; pending = Some (codes "names", names); skip = 0 };
  waiting = positional;
  position = 2;
  is_trailing = false;
  stopped = None;
}

abbrev at_option : Text → List Text → Walk
at_option command names = record {
  held = record { rows = command_row command ∷ names_row names ∷ []; pending = Some (codes "workers", []); skip = 0 };
  waiting = option (codes "workers");
  position = 2;
  is_trailing = false;
  stopped = None;
}

abbrev pub behind_number : Text → List Text → Text → Walk
behind_number command names number = record {
  held = record { rows = command_row command ∷ names_row names ∷ []; pending = Some (codes "workers", number ∷ []); skip = 0 };
  waiting = idle;
  position = 2;
  is_trailing = false;
  stopped = None;
}

walk_fault-cons : (s : Shape) (names : Names) (w : Walk) (word : Text) (rest : List Text) → turn_fault s names w word ≡ [] → walk_fault s names w (word ∷ rest) ≡ walk_fault s names (walked s.rules names w word) rest
unfolding walk_fault
walk_fault-cons s names w word rest none = ap (λ (k : Kinds). or_else k (walk_fault s names (walked s.rules names w word) rest)) none

walk_fault-nil : (s : Shape) (names : Names) (w : Walk) → walk_fault s names w [] ≡ []
unfolding walk_fault
walk_fault-nil s names w = refl

-- one word after the other; the command is any word that begins with no hyphen
module _ (k : ℕ) (ks : Text) (ek : eqb k 45 ≡ false) where
  command_fault : turn_fault shape [] start (k ∷ ks) ≡ []
  unfolding clap_on_literals
  command_fault = simp ek

  module _ (b : ℕ) (r : Text) (e : eqb b 45 ≡ false) where
    first_name : walked rules [] (walked rules [] start (k ∷ ks)) (b ∷ r) ≡ behind_names (k ∷ ks) ((b ∷ r) ∷ [])
    unfolding clap_on_literals
    first_name = simp (ek, e)

    first_fault : turn_fault shape [] (walked rules [] start (k ∷ ks)) (b ∷ r) ≡ []
    unfolding clap_on_literals
    first_fault = simp (ek, e)

    next_name : (n : Text) (ns : List Text) → walked rules [] (behind_names (k ∷ ks) (n ∷ ns)) (b ∷ r) ≡ behind_names (k ∷ ks) (n ∷ (ns ++ (b ∷ r) ∷ []))
    unfolding clap_on_literals
    next_name n ns = simp e

    next_fault : (n : Text) (ns : List Text) → turn_fault shape [] (behind_names (k ∷ ks) (n ∷ ns)) (b ∷ r) ≡ []
    unfolding clap_on_literals
    next_fault n ns = simp e

-- the walk goes on over these words, and all are taken
pub record Walks (from : Walk) (words : List Text) (end : Walk) : Type 0 where
  pub there : fold (walked rules []) from words ≡ end
  pub no_fault : walk_fault shape [] from words ≡ []

pub walks_none : (w : Walk) → Walks w [] w
walks_none w = record { there = refl; no_fault = walk_fault-nil shape [] w }

walks_on : (from mid end : Walk) (word : Text) (rest : List Text) → walked rules [] from word ≡ mid → turn_fault shape [] from word ≡ [] → Walks mid rest end → Walks from (word ∷ rest) end
walks_on from mid end word rest is none more = record {
  there = ap (λ (w : Walk). fold (walked rules []) w rest) is ∙ more.there;
  no_fault = walk_fault-cons shape [] from word rest none ∙ ap (λ (w : Walk). walk_fault shape [] w rest) is ∙ more.no_fault;
}

module _ (k : ℕ) (ks : Text) (ek : eqb k 45 ≡ false) where
  option_met : (n : Text) (ns : List Text) → walked rules [] (behind_names (k ∷ ks) (n ∷ ns)) (codes "--workers") ≡ at_option (k ∷ ks) (n ∷ ns)
  unfolding clap_on_literals
  option_met n ns = refl

  number_met : (names : List Text) (d : ℕ) (ds : Text) → eqb d 45 ≡ false → walked rules [] (at_option (k ∷ ks) names) (d ∷ ds) ≡ behind_number (k ∷ ks) names (d ∷ ds)
  unfolding clap_on_literals
  number_met names d ds e = simp e

  number_fault : (names : List Text) (d : ℕ) (ds : Text) → eqb d 45 ≡ false → turn_fault shape [] (at_option (k ∷ ks) names) (d ∷ ds) ≡ []
  unfolding clap_on_literals
  number_fault names d ds e = simp e

-- one, two or three names
abbrev pub Few : List Text → Type 0
Few [] = ⊥
Few (p ∷ []) = Unit {0}
Few (p ∷ q ∷ []) = Unit {0}
Few (p ∷ q ∷ c ∷ []) = Unit {0}
Few (p ∷ q ∷ c ∷ d ∷ ds) = ⊥

abbrev pub AreNames : List Text → Type 0
AreNames [] = Unit {0}
AreNames (n ∷ ns) = IsFileName n × AreNames ns

module _ (k : ℕ) (ks : Text) (ek : eqb k 45 ≡ false) where
  walks_names : (n : Text) (done ns tail : List Text) (end : Walk) → AreNames ns → Walks (behind_names (k ∷ ks) (n ∷ (done ++ ns))) tail end → Walks (behind_names (k ∷ ks) (n ∷ done)) (ns ++ tail) end
  walks_names n done [] tail end names rest = subst (λ (d : List Text). Walks (behind_names (k ∷ ks) (n ∷ d)) tail end) (append-nil done) rest
  walks_names n done ([] ∷ ns) tail end names rest = absurd names.0
  walks_names n done ((b ∷ r) ∷ ns) tail end names rest =
      let e : eqb b 45 ≡ false = no_hyphen b names.0 in
      walks_on (behind_names (k ∷ ks) (n ∷ done)) (behind_names (k ∷ ks) (n ∷ (done ++ (b ∷ r) ∷ []))) end (b ∷ r) (ns ++ tail) (next_name k ks ek b r e n done) (next_fault k ks ek b r e n done)
      (walks_names n (done ++ (b ∷ r) ∷ []) ns tail end names.1
      (subst (λ (d : List Text). Walks (behind_names (k ∷ ks) (n ∷ d)) tail end) (sym (append_assoc done ((b ∷ r) ∷ []) ns)) rest))

  pub walks_all : (ns tail : List Text) (end : Walk) → Few ns → AreNames ns → Walks (behind_names (k ∷ ks) ns) tail end → Walks start ((k ∷ ks) ∷ (ns ++ tail)) end
  walks_all [] tail end few names rest = absurd few
  walks_all ([] ∷ ns) tail end few names rest = absurd names.0
  walks_all ((b ∷ r) ∷ ns) tail end few names rest =
      let e : eqb b 45 ≡ false = no_hyphen b names.0 in
      walks_on start (at_command (k ∷ ks)) end (k ∷ ks) ((b ∷ r) ∷ (ns ++ tail)) refl (command_fault k ks ek)
      (walks_on (at_command (k ∷ ks)) (behind_names (k ∷ ks) ((b ∷ r) ∷ [])) end (b ∷ r) (ns ++ tail) (first_name k ks ek b r e) (first_fault k ks ek b r e)
      (walks_names (b ∷ r) [] ns tail end names.1 rest))

  option_fault : (ns : List Text) → Few ns → turn_fault shape [] (behind_names (k ∷ ks) ns) (codes "--workers") ≡ []
  unfolding clap_on_literals
  option_fault [] few = absurd few
  option_fault (p ∷ []) few = refl
  option_fault (p ∷ q ∷ []) few = refl
  option_fault (p ∷ q ∷ c ∷ []) few = refl
  option_fault (p ∷ q ∷ c ∷ d ∷ ds) few = absurd few

  pub walks_option : (n : Text) (ns : List Text) (d : ℕ) (ds : Text) → Few (n ∷ ns) → eqb d 45 ≡ false → Walks (behind_names (k ∷ ks) (n ∷ ns)) (codes "--workers" ∷ (d ∷ ds) ∷ []) (behind_number (k ∷ ks) (n ∷ ns) (d ∷ ds))
  walks_option n ns d ds few e =
      walks_on (behind_names (k ∷ ks) (n ∷ ns)) (at_option (k ∷ ks) (n ∷ ns)) _ (codes "--workers") _ (option_met k ks ek n ns) (option_fault (n ∷ ns) few)
      (walks_on (at_option (k ∷ ks) (n ∷ ns)) (behind_number (k ∷ ks) (n ∷ ns) (d ∷ ds)) _ (d ∷ ds) [] (number_met k ks ek (n ∷ ns) d ds e) (number_fault k ks ek (n ∷ ns) d ds e) (walks_none _))
