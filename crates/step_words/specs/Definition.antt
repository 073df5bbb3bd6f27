-- The command line as it is defined for clap: the command's word, then any number of names; the number of workers, from 1 to 64, is an option.
use Rattle.std.specs.Prelude.{List, [], ◌∷◌, Some, true, codes, pos, map, string_bytes}
use Rattle.std.specs.declared.string.String.{String}
use Rattle.std.specs.declared.alloc.Global.{Global}
use Rattle.clap.specs.Lexer.{usize_max}
use Rattle.clap.specs.Words.{App, Rule, Text, new_app, new_rule, with_rule}
use Rattle.clap.specs.declared.builder.value_parser.ValueParser.TheVariants as vp

abbrev pub command_rule : Rule
command_rule = record (new_rule (codes "command")) { required = true }

abbrev pub names_rule : Rule
names_rule = record (new_rule (codes "names")) { range = Some (record { start_inclusive = 0; end_inclusive = usize_max }) }

abbrev pub workers_rule : Rule
workers_rule = record (new_rule (codes "workers")) { long = Some (codes "workers"); parser = Some (vp.Signed (pos 1) (pos 64)); defaults = codes "1" ∷ [] }

abbrev pub step_app : App
step_app = with_rule (with_rule (with_rule (new_app (codes "step")) command_rule) names_rule) workers_rule

abbrev pub words_of : List (String Global) → List Text
words_of words = map (λ w. string_bytes w) words
