-- The lists of items of a response's rule: read exactly where they are spelled.
use Rattle.std.proofs.Common.{List, Option, [], arith, refl, true, ℕ, ◌++◌, ◌∷◌, ◌≡◌}
use Rattle.st_reading.specs.Breaches.{Breach}
use Rattle.st_tokens.specs.Stream.{Lexeme, Stream, ◌++>◌}
use Rattle.st_reading.proofs.ListCompleteness.{Complete}
use Rattle.st_reading.specs.Mark.{number}
use Rattle.st_reading.specs.Reading.{ahead, is_name}
use Rattle.st_reading.specs.Spelling.{Sound, behind_it}
use Rattle.st_reading.specs.Steady.{Within, anything}
use Rattle.st_reading.specs.declared.mark.Mark.TheVariants as marks
use Rattle.st_form.specs.Formula.{Formula}
use Rattle.temporal_goals.specs.Texts.{PlainNode}
use Rattle.response_rules.specs.Forms.{chain_nodes, fair_nodes, ranked_nodes}
use Rattle.proof_script.specs.Listing.{Setting}
use Rattle.proof_script.specs.Rules.{chain_nodes_of, completed_of, fair_nodes_of, fair_of, group_of, helped_of, helper_of, just_nodes_of, node_of, nodes_of, ranked_nodes_of, ranked_of, wanted_helper_of, weight_of}
use Rattle.st_reading.specs.Phrases.{Bracketed}
use Rattle.proof_grammar.specs.Rules.{IsFairItem, IsHelped, IsNode, IsRanked}
use Rattle.proof_grammar.specs.Units.{IsGroup}
use Rattle.proof_grammar.proofs.Counted.{bracketed_phrase}
use Rattle.proof_grammar.proofs.ItemEnds.{only_mark}
use Rattle.proof_grammar.proofs.NetItems.{fair_parts, from_fair, from_helped, from_ranked, helped_phrase, listed_helped, node_placed, ranked_item, to_fair, to_helped, to_ranked}
use Rattle.proof_grammar.proofs.Parts.{no_dot}
use Rattle.st_reading.proofs.Phrases.{Made, Phrase, as_phrase, made, map_phrase, then_phrase}
use Rattle.st_reading.proofs.Tokens.{marks_within}
use Rattle.proof_grammar.proofs.Transitions.{group_phrase}
use Rattle.proof_grammar.proofs.TypedTexts.{undrawn}

module _ (g : Setting) where
  -- THE LISTS, behind the token that says the manner
  abbrev pub just_list : Phrase Breach (List PlainNode) undrawn no_dot
  just_list = map_phrase undrawn no_dot (λ x. chain_nodes (x ∷ [])) (helped_phrase g 0)

  abbrev pub chain_list : Phrase Breach (List PlainNode) (only_mark marks.OpenBlock) anything
  chain_list = map_phrase (only_mark marks.OpenBlock) anything (λ xs. chain_nodes xs) (bracketed_phrase (IsHelped g) undrawn (listed_helped g) (to_helped g) (from_helped g))

  abbrev pub ranked_list : Phrase Breach (List PlainNode) (only_mark marks.OpenBlock) anything
  ranked_list = map_phrase (only_mark marks.OpenBlock) anything (λ xs. ranked_nodes xs) (bracketed_phrase (IsRanked g) undrawn (ranked_item g) (to_ranked g) (from_ranked g))

  abbrev pub fair_list : ℕ → Phrase Breach (List PlainNode) (only_mark marks.OpenBlock) anything
  fair_list c = map_phrase (only_mark marks.OpenBlock) anything (λ xs. fair_nodes c xs) (bracketed_phrase (IsFairItem g) undrawn (fair_parts g) (to_fair g) (from_fair g))

  pub block_undotted : Within (only_mark marks.OpenBlock) no_dot
  unfolding number
  block_undotted = marks_within no_dot (marks.OpenBlock ∷ []) refl

  abbrev pub compassion_list : Phrase Breach (List PlainNode) is_name anything
  compassion_list = then_phrase is_name no_dot (only_mark marks.OpenBlock) anything block_undotted (group_phrase g) fair_list

  abbrev pub node_list : Phrase Breach (List PlainNode) (only_mark marks.OpenBlock) anything
  node_list = bracketed_phrase (IsNode g) undrawn (node_placed g) (λ n ts x l. l) (λ n ts x l. l)

  -- what stands behind each
  pub data IsJustList : List Lexeme → List PlainNode → Type 0 where
    just_items : (ts : List Lexeme) (x : Formula × ℕ) → IsHelped g ts x → IsJustList ts (chain_nodes (x ∷ []))

  pub data IsFairList : List Lexeme → List PlainNode → Type 0 where
    fair_items : (a b : List Lexeme) (c : ℕ) (xs : List (Formula × Option ℕ)) → IsGroup g a c → Bracketed (IsFairItem g) b xs → IsFairList (a ++ b) (fair_nodes c xs)

  pub to_just : (ts : List Lexeme) (ns : List PlainNode) → just_list.language ts ns → IsJustList ts ns
  to_just ts ns (made us x l) = just_items us x (to_helped g 0 us x l).1

  pub from_just : (ts : List Lexeme) (ns : List PlainNode) → IsJustList ts ns → just_list.language ts ns
  from_just ts ns (just_items us x l) = made us x (from_helped g 0 us x (omega arith, l))

  pub to_fair_list : (ts : List Lexeme) (ns : List PlainNode) → compassion_list.language ts ns → IsFairList ts ns
  to_fair_list ts ns (behind_it a b1 c y l (made b xs k)) = fair_items a b c xs l k

  pub from_fair_list : (ts : List Lexeme) (ns : List PlainNode) → IsFairList ts ns → compassion_list.language ts ns
  from_fair_list ts ns (fair_items a b c xs l k) = behind_it a b c (fair_nodes c xs) l (made b xs k)

  abbrev pub just_as : Phrase Breach (List PlainNode) undrawn no_dot
  just_as = as_phrase undrawn no_dot just_list IsJustList to_just from_just

  abbrev pub fair_as : Phrase Breach (List PlainNode) is_name anything
  fair_as = as_phrase is_name anything compassion_list IsFairList to_fair_list from_fair_list

  -- THE READERS
  pub just_sound : Sound (just_nodes_of g) IsJustList
  unfolding just_nodes_of helped_of wanted_helper_of
  just_sound = just_as.sound

  pub just_complete : Complete no_dot (just_nodes_of g) IsJustList
  unfolding just_nodes_of helped_of wanted_helper_of
  just_complete = just_as.complete

  pub chain_nodes_sound : Sound (chain_nodes_of g) (Made (λ xs. chain_nodes xs) (Bracketed (IsHelped g)))
  unfolding chain_nodes_of helped_of wanted_helper_of
  chain_nodes_sound = chain_list.sound

  pub chain_nodes_complete : Complete anything (chain_nodes_of g) (Made (λ xs. chain_nodes xs) (Bracketed (IsHelped g)))
  unfolding chain_nodes_of helped_of wanted_helper_of
  chain_nodes_complete = chain_list.complete

  pub ranked_nodes_sound : Sound (ranked_nodes_of g) (Made (λ xs. ranked_nodes xs) (Bracketed (IsRanked g)))
  unfolding ranked_nodes_of ranked_of weight_of wanted_helper_of
  ranked_nodes_sound = ranked_list.sound

  pub ranked_nodes_complete : Complete anything (ranked_nodes_of g) (Made (λ xs. ranked_nodes xs) (Bracketed (IsRanked g)))
  unfolding ranked_nodes_of ranked_of weight_of wanted_helper_of
  ranked_nodes_complete = ranked_list.complete

  pub fair_nodes_sound : Sound (fair_nodes_of g) IsFairList
  unfolding fair_nodes_of fair_of helper_of
  fair_nodes_sound = fair_as.sound

  pub fair_nodes_complete : Complete anything (fair_nodes_of g) IsFairList
  unfolding fair_nodes_of fair_of helper_of
  fair_nodes_complete = fair_as.complete

  pub nodes_sound : Sound (nodes_of g) (Bracketed (IsNode g))
  unfolding nodes_of node_of weight_of group_of helper_of completed_of
  nodes_sound = node_list.sound

  pub nodes_complete : Complete anything (nodes_of g) (Bracketed (IsNode g))
  unfolding nodes_of node_of weight_of group_of helper_of completed_of
  nodes_complete = node_list.complete

  pub nodes_begin : (ts : List Lexeme) (ns : List PlainNode) → Bracketed (IsNode g) ts ns → (after : Stream) → anything (ahead after) ≡ true → only_mark marks.OpenBlock (ahead (ts ++> after)) ≡ true
  nodes_begin = node_list.begins
