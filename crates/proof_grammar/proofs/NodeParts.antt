-- The rank and the helper of a drawing's node, by the drawing's kind: read exactly where they are spelled.
use Rattle.std.proofs.Common.{Bool, List, None, Option, Some, [], false, is_none, refl, true, ℕ, ◌&&◌, ◌∷◌, ◌≡◌}
use Rattle.st_reading.specs.Breaches.{Breach}
use Rattle.st_tokens.specs.Stream.{Lexeme}
use Rattle.st_reading.proofs.ListCompleteness.{Complete}
use Rattle.st_reading.proofs.ListSoundness.{one_mark}
use Rattle.st_reading.specs.Mark.{number}
use Rattle.st_reading.specs.Reading.{is_name}
use Rattle.st_reading.specs.Spelling.{Sound, behind_it}
use Rattle.st_reading.specs.Steady.{Within, anything}
use Rattle.st_reading.specs.declared.mark.Mark.TheVariants as marks
use Rattle.st_reading.specs.declared.sign.Sign.{Sign}
use Rattle.st_linear.specs.Linear.{Linear}
use Rattle.temporal_goals.specs.declared.diagrams.DiagramKind.{DiagramKind}
use Rattle.expression_parser.specs.Calm.{calm}
use Rattle.diagram_reader.specs.Drawing.{helper_of, rank_of}
use Rattle.diagram_reader.specs.Drawn.{has_helpers, has_ranks}
use Rattle.diagram_reader.specs.Drawn as diagrams
use Rattle.proof_script.specs.Listing.{Setting}
use Rattle.proof_grammar.specs.Drawings.{IsNodeHelper, IsNodeRank, node_helper, node_rank, unhelped, unranked}
use Rattle.st_reading.specs.Phrases.{Optional, after_mark, left_out, put_in}
use Rattle.proof_grammar.specs.Units.{IsHelper}
use Rattle.proof_grammar.proofs.Conditions.{Where, allowed_phrase, where_not, where_phrase, where_so}
use Rattle.proof_grammar.proofs.DrawnTransitions.{drawn_helper_phrase}
use Rattle.proof_grammar.proofs.Formulas.{drawing_setting, drawn_number_phrase}
use Rattle.proof_grammar.proofs.Parts.{no_dot}
use Rattle.st_reading.proofs.Phrases.{Phrase, as_phrase, made, map_phrase, the_mark, then_phrase, within_phrase}
use Rattle.st_reading.proofs.Tokens.{among, but, marks_within}

abbrev pub closing : Sign → Bool
closing = among (marks.Semicolon ∷ [])

abbrev pub helper_or_closing : Sign → Bool
helper_or_closing = among (marks.Helper ∷ marks.Semicolon ∷ [])

abbrev pub rank_or_closing : Sign → Bool
rank_or_closing = among (marks.Rank ∷ marks.Helper ∷ marks.Semicolon ∷ [])

pub closing_undotted : Within closing no_dot
unfolding number
closing_undotted = marks_within no_dot (marks.Semicolon ∷ []) refl

pub closing_unhelped : Within closing (but marks.Helper)
unfolding number
closing_unhelped = marks_within (but marks.Helper) (marks.Semicolon ∷ []) refl

pub helper_closing_calm : Within helper_or_closing calm
unfolding number calm
helper_closing_calm = marks_within calm (marks.Helper ∷ marks.Semicolon ∷ []) refl

pub rank_closing_calm : Within rank_or_closing calm
unfolding number calm
rank_closing_calm = marks_within calm (marks.Rank ∷ marks.Helper ∷ marks.Semicolon ∷ []) refl

pub rank_or : Within (among (marks.Rank ∷ [])) rank_or_closing
unfolding number
rank_or = marks_within rank_or_closing (marks.Rank ∷ []) refl

pub helper_or : Within helper_or_closing rank_or_closing
unfolding number
helper_or = marks_within rank_or_closing (marks.Helper ∷ marks.Semicolon ∷ []) refl

pub closing_calm : Within closing calm
unfolding number calm
closing_calm = marks_within calm (marks.Semicolon ∷ []) refl

wants : {A : Type 0} (b : Bool) (o : Option A) → (b && is_none o) ≡ false → b ≡ true → o ≡ None → ⊥
wants true None e f h = cc
wants true (Some x) e f h = cc
wants false o e f h = cc

module _ (g : Setting) (kind : DiagramKind) (highest : ℕ) where
  abbrev pub drawn_setting : diagrams.Setting
  drawn_setting = drawing_setting g kind highest

  -- RANKS
  abbrev pub rank_parts : Phrase Breach (Option Linear) (among (marks.Rank ∷ [])) calm
  rank_parts = then_phrase (among (marks.Rank ∷ [])) anything anything calm (λ g h. h) (the_mark marks.Rank) (λ m. map_phrase anything calm (λ e. Some e) (drawn_number_phrase g kind highest))

  abbrev pub rank_where : Phrase Breach (Option Linear) rank_or_closing helper_or_closing
  rank_where = where_phrase rank_or_closing helper_or_closing (has_ranks kind) None helper_or (within_phrase (among (marks.Rank ∷ [])) calm rank_or_closing helper_or_closing rank_or helper_closing_calm rank_parts)

  pub to_rank : (ts : List Lexeme) (r : Option Linear) → rank_where.language ts r → IsNodeRank g kind highest ts r
  to_rank ts r (where_so us o e (behind_it a b m y (one_mark t f) (made c x l))) = node_rank (t ∷ c) x e (after_mark t c x f l)
  to_rank ts r (where_not e) = unranked e

  pub from_rank : (ts : List Lexeme) (r : Option Linear) → IsNodeRank g kind highest ts r → rank_where.language ts r
  from_rank ts r (unranked e) = where_not e
  from_rank ts r (node_rank us x e (after_mark t c y f l)) = where_so (t ∷ c) (Some y) e (behind_it (t ∷ []) c t.start (Some y) (one_mark t f) (made c y l))

  abbrev pub rank_as : Phrase Breach (Option Linear) rank_or_closing helper_or_closing
  rank_as = as_phrase rank_or_closing helper_or_closing rank_where (IsNodeRank g kind highest) to_rank from_rank

  pub rank_sound : Sound (rank_of drawn_setting) (IsNodeRank g kind highest)
  unfolding rank_of
  rank_sound = rank_as.sound

  pub rank_complete : Complete helper_or_closing (rank_of drawn_setting) (IsNodeRank g kind highest)
  unfolding rank_of
  rank_complete = rank_as.complete

  abbrev pub rank_phrase : Phrase Breach (Option Linear) rank_or_closing helper_or_closing
  rank_phrase = record { reader = rank_of drawn_setting; language = IsNodeRank g kind highest; sound = rank_sound; complete = rank_complete; begins = rank_as.begins }

  -- HELPERS, which chain and rank diagrams want
  abbrev pub MayHelp : List Lexeme → Option ℕ → Type 0
  MayHelp = Where (has_helpers kind) (Optional marks.Helper (IsHelper g)) None

  abbrev pub helper_allowed : Phrase Breach (Option ℕ) helper_or_closing closing
  helper_allowed = allowed_phrase (has_helpers kind) marks.Helper is_name no_dot closing closing_unhelped closing_undotted (drawn_helper_phrase g kind highest)

  pub allowed_helper_sound : Sound (helper_of drawn_setting) MayHelp
  unfolding helper_of
  allowed_helper_sound = helper_allowed.sound

  pub allowed_helper_complete : Complete closing (helper_of drawn_setting) MayHelp
  unfolding helper_of
  allowed_helper_complete = helper_allowed.complete

  abbrev pub allowed_helper : Phrase Breach (Option ℕ) helper_or_closing closing
  allowed_helper = record { reader = helper_of drawn_setting; language = MayHelp; sound = allowed_helper_sound; complete = allowed_helper_complete; begins = helper_allowed.begins }

  pub wanted : (ts : List Lexeme) (h : Option ℕ) → MayHelp ts h → (has_helpers kind && is_none h) ≡ false → IsNodeHelper g kind highest ts h
  wanted ts h (where_so us o e left_out) k = absurd (wants {A = ℕ} (has_helpers kind) None k e refl)
  wanted ts h (where_so us o e (put_in t vs x f l)) k = node_helper (t ∷ vs) x e (after_mark t vs x f l)
  wanted ts h (where_not e) k = unhelped e

  pub may_help : (ts : List Lexeme) (h : Option ℕ) → IsNodeHelper g kind highest ts h → MayHelp ts h
  may_help ts h (unhelped e) = where_not e
  may_help ts h (node_helper us x e (after_mark t vs y f l)) = where_so (t ∷ vs) (Some y) e (put_in t vs y f l)

  pub fits : (ts : List Lexeme) (h : Option ℕ) → IsNodeHelper g kind highest ts h → (has_helpers kind && is_none h) ≡ false
  fits ts h (unhelped e) = rw e refl
  fits ts h (node_helper us x e l) = rw e refl
