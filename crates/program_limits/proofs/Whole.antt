-- A text that spells a program is read to it, or refused for the first limit that it passes.
use Rattle.std.proofs.Common.{◌≡◌, ℕ, ◌+◌, ◌≤◌, false, List, [], ◌∷◌, Ok, Err, refl, ap, subst, ◌∙◌, arith}
use Rattle.st_tokens.specs.Stream.{◌++>◌, Lexeme, Stream, ends, text_stream}
use Rattle.st_reading.specs.Reading.{◌>>=◌, other, Label, then_reads, gives, at_end}
use Rattle.st_reading.specs.Faults.{Passed}
use Rattle.st_reading.proofs.ListCompleteness.{all_after, AllFit}
use Rattle.expression_parser.specs.Calm.{calm, calm_but}
use Rattle.expression_parser.specs.Grammar.{SpellsWithin}
use Rattle.spl_parser.specs.ProgramTree.{Declaration, Process, Program}
use Rattle.spl_parser.specs.Grammar.{Low, IsProgram}
use Rattle.spl_parser.specs.Programs.{Limits, Totals, totals, spelled_of, program_of, usual}
use Rattle.spl_parser.specs.Parsing.{alone, parsed}
use Rattle.spl_parser.proofs.ProgramCompleteness.{name_after, declaration_after, process_after, NameFits, DeclarationsFit, ProcessFits, ProgramFits, spelled_complete}
use Rattle.program_limits.specs.Order.{program_counts, IsFirstPassed}
use Rattle.program_limits.specs.Theorems.{IsAnswered, LimitsInOrder}
use Rattle.program_limits.proofs.Walking.{Meets, fits, passes}
use Rattle.program_limits.proofs.ProgramsBeside.{freely, Meeting, spelled_meets}
use Rattle.program_limits.proofs.Within.{numbers, walk_within, within_walk, walk_first, first_walk}

-- EACH PROGRAM FITS WHERE NOTHING IS LIMITED
module _ (o round : ℕ) where
  abbrev free : Limits
  free = freely (numbers o) round

  names_fit : (ls : List Label) (n : ℕ) → AllFit name_after (NameFits free) ls n
  names_fit [] n = tt
  names_fit (l ∷ ls) n = (refl, names_fit ls (n + 1))

  declarations_fit : (ds : List Declaration) (n : ℕ) → DeclarationsFit free ds n
  declarations_fit [] n = tt
  declarations_fit (d ∷ ds) n = (names_fit d.names n, declarations_fit ds (declaration_after d n))

  processes_fit : (ps : List Process) (t : Totals) → AllFit process_after (ProcessFits free) ps t
  processes_fit [] t = tt
  processes_fit (p ∷ ps) t = ((refl, declarations_fit p.declarations t.variables, λ k a b. refl), processes_fit ps (process_after p t))

  pub program_fits : (x : Program) → ProgramFits free x
  program_fits x = (declarations_fit x.declarations 0, processes_fit x.processes (totals 0 (all_after declaration_after x.declarations 0) 0))

-- What is spelled, whatever it has, is met from the beginning.
pub spelled_meeting : (o opened round : ℕ) → opened ≤ o → (ts : List Lexeme) (x : Program) (q : ℕ) → IsProgram (SpellsWithin false opened) (Low (SpellsWithin false opened) round) ts x → Meeting (numbers o) (ts ++> ends q) x (ends q)
unfolding calm calm_but
spelled_meeting o opened round le ts x q l =
    spelled_meets (numbers o) (round + 33) (omega arith) refl (ts ++> ends q) x (ends q) (spelled_complete (freely (numbers o) (round + 33)) opened round le (omega arith) ts x l (program_fits o (round + 33) x) (ends q) refl)

-- A WHOLE TEXT
whole_read : (s : Stream) (x : Program) (q : ℕ) → spelled_of usual s ≡ Ok (x, ends q) → program_of usual s ≡ Ok (x, ends q)
unfolding program_of at_end
whole_read s x q h = ap (λ z. z >>= λ y. then_reads at_end (λ e. gives y.0) y.1) h

whole_refused : (s : Stream) (c : Passed) → spelled_of usual s ≡ Err (other c) → program_of usual s ≡ Err (other c)
unfolding program_of at_end
whole_refused s c h = ap (λ z. z >>= λ y. then_reads at_end (λ e. gives y.0) y.1) h

module _ (text : List ℕ) (ts : List Lexeme) (x : Program) (q : ℕ) (is : text_stream text ≡ ts ++> ends q) where
  text_read : spelled_of usual (ts ++> ends q) ≡ Ok (x, ends q) → parsed text ≡ Ok x
  text_read h = ap alone (ap (program_of usual) is ∙ whole_read (ts ++> ends q) x q h)

  text_refused : (c : Passed) → spelled_of usual (ts ++> ends q) ≡ Err (other c) → parsed text ≡ Err (other c)
  text_refused c h = ap alone (ap (program_of usual) is ∙ whole_refused (ts ++> ends q) c h)

  answered : (u : Totals) → Meets usual (spelled_of usual (ts ++> ends q)) x (ends q) (program_counts x) (totals 0 0 0) u → IsAnswered text x
  answered u (fits w e) =
      let good = text_read e in
      record {
        taken = (λ h. walk_within 32 (program_counts x) u w, λ h. good);
        refused = λ c. (λ h. cc, λ f. let g = first_walk 32 (program_counts x) c f in cc);
      }
  answered u (passes d w e) =
      let bad = text_refused d e in
      record {
        taken = (λ h. cc, λ h. absurd (within_walk 32 (program_counts x) d h w));
        refused = λ c. (λ h. let same : d ≡ c = cc in subst (IsFirstPassed (program_counts x)) same (walk_first 32 (program_counts x) d w), λ f. let g = first_walk 32 (program_counts x) c f in let same : d ≡ c = cc in bad ∙ ap (λ z. Err (other z)) same);
      }

pub limits_in_order : LimitsInOrder
limits_in_order text ts x has l = let m = spelled_meeting 32 32 l.0 (omega arith) ts x has.0 l.1 in answered text ts x has.0 has.1 m.now m.meets
