-- The theorems of whole programs, from what the grammar's readers promise.
use Rattle.std.proofs.Common.{◌≡◌, ℕ, zero, suc, ◌+◌, ◌≤◌, ◌<◌, nat_lt, Bool, true, false, List, [], ◌∷◌, ◌++◌, length, Option, Some, None, Result, Ok, Err, ◌⊎◌, inl, inr, refl, sym, ap, subst, ◌∙◌, append-nil, arith}
use Rattle.std.proofs.lemmas.Bool.Decides.{nat_tests}
use Rattle.st_tokens.specs.declared.limit.LimitKind.{LimitKind}
use Rattle.st_tokens.specs.declared.limit.LimitKind.TheVariants as limits
use Rattle.st_tokens.specs.Stream.{◌++>◌, Lexeme, Stream, ends, breaks, more, text_stream}
use Rattle.st_reading.specs.Faults.{Passed, passed, see}
use Rattle.st_reading.specs.declared.fault.ParseFault.{ParseFault}
use Rattle.st_reading.specs.Reading.{IsStop, Stop, other, Read, Label, then_reads, gives, at_end}
use Rattle.st_reading.specs.Theorem.{IsFirst, IsMet}
use Rattle.st_reading.proofs.Streams.{same_text}
use Rattle.st_reading.proofs.Soundness.{split, values}
use Rattle.st_reading.proofs.ListCompleteness.{all_after, AllFit}
use Rattle.st_reading.proofs.Lifting.{Lifted}
use Rattle.st_reading.proofs.Theorems.{whole_first, first_as, met_as, further_tokens, spelled_unstuck, limit_met}
use Rattle.spl_parser.specs.ProgramTree.{Declaration, Process, Program}
use Rattle.expression_parser.specs.Calm.{calm, calm_but}
use Rattle.spl_parser.specs.Programs.{Limits, Totals, totals, spelled_of, program_of, usual}
use Rattle.expression_parser.specs.Grammar.{SpellsWithin}
use Rattle.spl_parser.specs.Grammar.{Low, IsProgram, SpellsProgram}
use Rattle.spl_parser.specs.Numbers.{declared, declared_inside, in_processes, IsWithin}
use Rattle.spl_parser.specs.Parsing.{alone, parsed, Parses}
use Rattle.spl_parser.specs.Theorems.{SpellsWithinLimits, ReadOnce, SpelledIsRead, ReadIsSpelled, FirstFault, LimitsRefuse, IsWithinOne, LimitsAreMet, IsRefused, IsReading}
use Rattle.expression_parser.proofs.ExpressionLaw.{larger}
use Rattle.spl_parser.proofs.InsideLaw.{unlimited, deeper}
use Rattle.spl_parser.proofs.BodyLaw.{apart}
use Rattle.spl_parser.proofs.Tally.{body_after, body_raises, body_rises, Range, first_part, last_part, joined_parts, nothing_begins, one_begins, all_begin, all_fit}
use Rattle.spl_parser.proofs.ProgramCompleteness.{name_after, declaration_after, process_after, NameFits, DeclarationFits, DeclarationsFit, ProcessFits, ProgramFits, program_complete, spelled_complete}
use Rattle.spl_parser.proofs.ProgramSoundness.{spelled_sound}
use Rattle.spl_parser.proofs.ProgramTally.{spelled_fits}
use Rattle.spl_parser.proofs.ProgramLifting.{AsLarge, spelled_lifts}
use Rattle.spl_parser.proofs.ProgramLaw.{beyond, no_mode, lawful_program, quiet_apart}

-- WHAT FITS, BY ITS NUMBERS
names_raise : (ls : List Label) (n : ℕ) → all_after name_after ls n ≡ n + length ls
names_raise [] n = omega arith
names_raise (l ∷ ls) n = omega (arith, names_raise ls (n + 1))

declarations_raise : (ds : List Declaration) (n : ℕ) → all_after declaration_after ds n ≡ n + declared ds
declarations_raise [] n = omega arith
declarations_raise (d ∷ ds) n = omega (arith, names_raise d.names n, declarations_raise ds (declaration_after d n))

declaration_rises : (d : Declaration) (n : ℕ) → n ≤ declaration_after d n
declaration_rises d n = omega (arith, names_raise d.names n)

declarations_rise : (ds : List Declaration) (n : ℕ) → n ≤ all_after declaration_after ds n
declarations_rise ds n = omega (arith, declarations_raise ds n)

variables_after : List Process → ℕ → ℕ
variables_after [] n = n
variables_after (p ∷ ps) n = variables_after ps (all_after declaration_after p.declarations n)

statements_after : List Process → ℕ → ℕ
statements_after [] n = n
statements_after (p ∷ ps) n = statements_after ps (body_after p.body n)

variables_raise : (ps : List Process) (n : ℕ) → variables_after ps n ≡ n + declared_inside ps
unfolding variables_after
variables_raise [] n = omega arith
variables_raise (p ∷ ps) n = omega (arith, declarations_raise p.declarations n, variables_raise ps (all_after declaration_after p.declarations n))

statements_raise : (ps : List Process) (n : ℕ) → statements_after ps n ≡ n + in_processes ps
unfolding statements_after
statements_raise [] n = omega arith
statements_raise (p ∷ ps) n = omega (arith, body_raises p.body n, statements_raise ps (body_after p.body n))

module _ (limit : Limits) where
  declarations_fit : (ds : List Declaration) (n : ℕ) → Range limit.variables n (all_after declaration_after ds n) → DeclarationsFit limit ds n
  declarations_fit ds n f =
      all_fit declaration_after declaration_rises limit.variables (DeclarationFits limit)
      (λ d n g. all_fit name_after (λ l n. omega arith) limit.variables (NameFits limit) (λ l n h. h n (omega arith) (omega arith)) d.names n g) ds n f

  processes_fit : (ps : List Process) (t : Totals) → Range limit.processes t.processes (t.processes + length ps) → Range limit.variables t.variables (variables_after ps t.variables) → Range limit.statements t.statements (statements_after ps t.statements)
      → AllFit process_after (ProcessFits limit) ps t
  unfolding variables_after statements_after
  processes_fit [] t f g h = tt
  processes_fit (p ∷ ps) t f g h =
      let v = all_after declaration_after p.declarations t.variables in
      let m = body_after p.body t.statements in
      let v_end = variables_after ps v in
      let m_end = statements_after ps m in
      let v_le : v ≤ v_end = omega (arith, variables_raise ps v) in
      let m_le : m ≤ m_end = omega (arith, statements_raise ps m) in (
        (f t.processes (omega arith) (omega arith), declarations_fit p.declarations t.variables (first_part limit.variables t.variables v v_end v_le g), first_part limit.statements t.statements m m_end m_le h),
        processes_fit ps (process_after p t) (λ k a b. f k (omega arith) (omega arith)) (last_part limit.variables t.variables v v_end (declarations_rise p.declarations t.variables) g) (last_part limit.statements t.statements m m_end (body_rises p.body t.statements) h),
      )

  program_fits : (x : Program) → Range limit.variables 0 (declared x.declarations + declared_inside x.processes) → Range limit.processes 0 (length x.processes) → Range limit.statements 0 (in_processes x.processes) → ProgramFits limit x
  program_fits x f g h =
      let v = all_after declaration_after x.declarations 0 in
      let a = declarations_raise x.declarations 0 in
      let b = variables_raise x.processes v in
      let c = statements_raise x.processes 0 in
      (declarations_fit x.declarations 0 (λ k p q. f k p (omega (arith, a))), processes_fit x.processes (totals 0 v 0) (λ k p q. g k (omega arith) (omega arith)) (λ k p q. f k (omega arith) (omega (arith, a, b))) (λ k p q. h k p (omega (arith, c))))

below_is : (k n m : ℕ) → k < n → n ≤ m → nat_lt k m ≡ true
below_is k n m h le = let l : k < m = omega arith in grind (arith, nat_tests)

within_fits : (x : Program) → IsWithin x → ProgramFits usual x
within_fits x w = program_fits usual x (λ k a b. below_is k (declared x.declarations + declared_inside x.processes) 64 b w.variables) (λ k a b. below_is k (length x.processes) 16 b w.processes) (λ k a b. below_is k (in_processes x.processes) 400 b w.statements)

-- WHAT IS SPELLED IS READ
pub what_is_spelled_is_read : SpelledIsRead
what_is_spelled_is_read text x s =
    ap alone (ap (program_of usual) s.1.1 ∙ program_complete usual 32 33 (omega arith) (omega arith) s.0 x s.2.spells (within_fits x s.2.numbers) s.1.0)

-- no limits on numbers, and these on levels
free : ℕ → ℕ → Limits
free o r = record { variables = unlimited; processes = unlimited; statements = unlimited; opened = o; round = r }

free_fits : (o r : ℕ) (x : Program) → ProgramFits (free o r) x
unfolding free
free_fits o r x = program_fits (free o r) x (λ k a b. refl) (λ k a b. refl) (λ k a b. refl)

read_free : (o r opened round : ℕ) → opened ≤ o → round ≤ suc r → (ts : List Lexeme) (x : Program) → IsProgram (SpellsWithin false opened) (Low (SpellsWithin false opened) round) ts x → program_of (free o r) (ts ++> ends 0) ≡ Ok (x, ends 0)
unfolding free
read_free o r opened round le le2 ts x l = program_complete (free o r) opened round le le2 ts x l (free_fits o r x) 0

pub programs_read_once : ReadOnce
programs_read_once ts x y a b =
    let p = read_free (a.0 + b.0) (a.1 + b.1) a.0 a.1 (omega arith) (omega arith) ts x a.2 in
    let q = read_free (a.0 + b.0) (a.1 + b.1) b.0 b.1 (omega arith) (omega arith) ts y b.2 in
    (values (program_of (free (a.0 + b.0) (a.1 + b.1)) (ts ++> ends 0)) x y (ends 0) (ends 0) p q).0

-- THE FIRST FAULT
larger_is : (n i : ℕ) → larger n i ≡ suc (n + i)
larger_is zero i = omega arith
larger_is (suc n) i = omega (arith, larger_is n i)

deeper_is : (n i : ℕ) → deeper n i ≡ suc (suc (n + i))
deeper_is zero i = omega arith
deeper_is (suc n) i = omega (arith, deeper_is n i)

beyond_fits : (i : ℕ) (x : Program) → ProgramFits (beyond usual i) x
beyond_fits i x = program_fits (beyond usual i) x (λ k a b. refl) (λ k a b. refl) (λ k a b. refl)

-- the language of the reader with so much room
Beyond : ℕ → List Lexeme → Program → Type 0
Beyond i ts x = IsProgram (SpellsWithin false (beyond usual i).opened) (Low (SpellsWithin false (beyond usual i).opened) (suc (beyond usual i).round)) ts x

Some_beyond : List Lexeme → Program → Type 0
Some_beyond ts x = (i : ℕ) × Beyond i ts x

reads_beyond : (i opened round : ℕ) → opened ≤ (beyond usual i).opened → round ≤ suc (beyond usual i).round → (ts : List Lexeme) (x : Program) (q : ℕ) → IsProgram (SpellsWithin false opened) (Low (SpellsWithin false opened) round) ts x → spelled_of (beyond usual i) (ts ++> ends q) ≡ Ok (x, ends q)
unfolding calm calm_but
reads_beyond i opened round le le2 ts x q l = spelled_complete (beyond usual i) opened round le le2 ts x l (beyond_fits i x) (ends q) refl

all_beyond : (i : ℕ) (ts : List Lexeme) (x : Program) (q : ℕ) → Beyond i ts x → spelled_of (beyond usual i) (ts ++> ends q) ≡ Ok (x, ends q)
unfolding Beyond
all_beyond i ts x q l = reads_beyond i (beyond usual i).opened (suc (beyond usual i).round) (omega arith) (omega arith) ts x q l

to_spells : (ts : List Lexeme) (x : Program) → Some_beyond ts x → SpellsProgram ts x
unfolding Some_beyond Beyond
to_spells ts x l = ((beyond usual l.0).opened, suc (beyond usual l.0).round, l.1)

from_spells : (ts : List Lexeme) (x : Program) → SpellsProgram ts x → Some_beyond ts x
unfolding Some_beyond Beyond
from_spells ts x l =
    let i = l.0 + l.1 in
    let read = reads_beyond i l.0 l.1 (omega (arith, larger_is 32 i)) (omega (arith, deeper_is 32 i)) ts x 0 l.2 in
    let c = spelled_sound (beyond usual i) (ts ++> ends 0) x (ends 0) read in
    (i, subst (λ (z : List Lexeme). Beyond i z x) (sym (same_text ts c.text 0 c.is)) c.spells)

spelled_first : (s : Stream) (f : Stop Passed) → program_of usual s ≡ Err f → IsFirst SpellsProgram s f
unfolding program_of Some_beyond Beyond
spelled_first s f h =
    first_as Some_beyond SpellsProgram to_spells from_spells s f
    (whole_first no_mode apart (quiet_apart usual) (spelled_of usual) (λ i. spelled_of (beyond usual i)) 0 Beyond (λ i. spelled_sound (beyond usual i)) all_beyond s f ((lawful_program usual).law s) h)

refused_alone : {A : Type 0} (o : Read Passed A) (f : Stop Passed) → alone o ≡ Err f → o ≡ Err f
refused_alone (Ok x) f h = cc
refused_alone (Err g) f h = let e : g ≡ f = cc in ap Err e

pub first_fault : FirstFault
first_fault text f h = spelled_first (text_stream text) f (refused_alone (program_of usual (text_stream text)) f h)

-- WHAT IS READ IS SPELLED
-- the numbers of what fits
module _ (limit : Limits) where
  declarations_begin : (ds : List Declaration) (n : ℕ) → DeclarationsFit limit ds n → Range limit.variables n (all_after declaration_after ds n)
  declarations_begin ds n f =
      all_begin declaration_after limit.variables (DeclarationFits limit)
      (λ d n g. all_begin name_after limit.variables (NameFits limit) (λ l n h. one_begins limit.variables n (n + 1) h (nothing_begins limit.variables (n + 1) (n + 1) (omega arith))) d.names n g) ds n f

  record Begun (ps : List Process) (t : Totals) : Type 0 where
    processes : Range limit.processes t.processes (t.processes + length ps)
    variables : Range limit.variables t.variables (variables_after ps t.variables)
    statements : Range limit.statements t.statements (statements_after ps t.statements)

  processes_begin : (ps : List Process) (t : Totals) → AllFit process_after (ProcessFits limit) ps t → Begun ps t
  unfolding variables_after statements_after
  processes_begin [] t f = record {
    processes = nothing_begins limit.processes t.processes (t.processes + 0) (omega arith);
    variables = nothing_begins limit.variables t.variables t.variables (omega arith);
    statements = nothing_begins limit.statements t.statements t.statements (omega arith);
  }
  processes_begin (p ∷ ps) t f =
      let v = all_after declaration_after p.declarations t.variables in
      let m = body_after p.body t.statements in
      let d = processes_begin ps (process_after p t) f.1 in
      record {
        processes = one_begins limit.processes t.processes (t.processes + length (p ∷ ps)) f.0.0 (λ k a b. d.processes k a (omega arith));
        variables = joined_parts limit.variables t.variables v (variables_after ps v) (declarations_begin p.declarations t.variables f.0.1) d.variables;
        statements = joined_parts limit.statements t.statements m (statements_after ps m) f.0.2 d.statements;
      }

at_most : (n m : ℕ) → Range (λ k. nat_lt k m) 0 n → n ≤ m
at_most n m f = by_test (nat_lt m n) refl
  where
    by_test : (b : Bool) → b ≡ nat_lt m n → n ≤ m
    by_test false e = grind (arith, nat_tests)
    by_test true e = let l : m < n = grind (arith, nat_tests) in let k = f m (omega arith) l in grind (arith, nat_tests)

fits_within : (x : Program) → ProgramFits usual x → IsWithin x
fits_within x f =
    let v = all_after declaration_after x.declarations 0 in
    let d = processes_begin usual x.processes (totals 0 v 0) f.1 in
    let a = declarations_raise x.declarations 0 in
    let b = variables_raise x.processes v in
    let c = statements_raise x.processes 0 in
    let variables_end = variables_after x.processes v in
    let variables_all = joined_parts usual.variables 0 v variables_end (declarations_begin usual x.declarations 0 f.0) d.variables in
    record {
      variables = let m = at_most variables_end 64 variables_all in omega (arith, a, b, m);
      processes = let m = at_most (0 + length x.processes) 16 d.processes in omega (arith, m);
      statements = let m = at_most (statements_after x.processes 0) 400 d.statements in omega (arith, c, m);
    }

-- a whole text that is read
record Whole (s : Stream) (x : Program) : Type 0 where
  text : List Lexeme
  place : ℕ
  is : s ≡ text ++> ends place
  spells : SpellsWithinLimits text x

whole_read : (s : Stream) (x : Program) (rest : Stream) → program_of usual s ≡ Ok (x, rest) → Whole s x
unfolding program_of at_end
whole_read s x rest h =
    let p = split (spelled_of usual) (λ x. then_reads at_end (λ e. gives x)) s x rest h in
    let q = split at_end (λ e. gives p.value) p.middle x rest p.second in
    let e = (values {X = Passed} (gives p.value q.middle) p.value x q.middle rest refl q.second).0 in
    let c = spelled_sound usual s p.value p.middle p.first in
    let z = ended p.middle q.value q.middle q.first in
    record {
      text = c.text;
      place = z.0;
      is = c.is ∙ ap (λ m. c.text ++> m) z.1;
      spells = subst (SpellsWithinLimits c.text) e (record { spells = c.spells; numbers = fits_within p.value (spelled_fits usual s p.value p.middle p.first) });
    }
  where
    ended : (m : Stream) (u : Unit {0}) (n : Stream) → at_end {X = Passed} m ≡ Ok (u, n) → (place : ℕ) × (m ≡ ends place)
    ended (ends place) u n h = (place, refl)
    ended (breaks f) u n h = cc
    ended (more t s) u n h = cc

read_alone : {A : Type 0} (o : Read Passed A) (x : A) → alone o ≡ Ok x → (rest : Stream) × (o ≡ Ok (x, rest))
read_alone {A} (Ok y) x h = let e : y.0 ≡ x = cc in (y.1, ap (λ (z : A). Ok (z, y.1)) e)
read_alone (Err g) x h = cc

pub what_is_read_is_spelled : ReadIsSpelled
what_is_read_is_spelled text x h =
    let r = read_alone (program_of usual (text_stream text)) x h in
    let w = whole_read (text_stream text) x r.0 r.1 in
    (w.text, (w.place, w.is), w.spells)

-- BEYOND THE LIMITS
-- the tokens of a text are determined
same_tokens : (a b : List Lexeme) (p q : ℕ) → a ++> ends p ≡ b ++> ends q → a ≡ b
same_tokens a b p q h = at_rest (further_tokens a b p (ends q) h)
  where
    at_rest : (c : List Lexeme) × (a ≡ b ++ c) × (ends q ≡ c ++> ends p) → a ≡ b
    at_rest ([], e, f) = e ∙ append-nil b
    at_rest (t ∷ c, e, f) = cc

pub limits_refuse : LimitsRefuse
limits_refuse text ts x tokens l = by_read (parsed text) refl
  where
    by_read : (o : Result Program (Stop Passed)) → o ≡ parsed text → SpellsWithinLimits ts x ⊎ ((p : Passed) × (parsed text ≡ Err (other p)))
    by_read (Ok y) e =
        let r = what_is_read_is_spelled text y (sym e) in
        let same = same_tokens ts r.0 tokens.0 r.1.0 (sym tokens.1 ∙ r.1.1) in
        let w = subst (λ z. SpellsWithinLimits z y) (sym same) r.2 in
        inl (subst (SpellsWithinLimits ts) (programs_read_once ts y x (32, 33, w.spells) l) w)
    by_read (Err f) e =
        let first = first_fault text f (sym e) in
        let k = spelled_unstuck SpellsProgram x tokens.0 ts l f (subst (λ s. IsFirst SpellsProgram s f) tokens.1 first) in
        inr (k.0, sym e ∙ ap Err k.1)

-- passing that limit
Same : LimitKind → Passed → Type 0
Same kind (passed k place) = k ≡ kind

-- What is read within larger limits, but for one, isn't refused for that one.
refuted : (kind : LimitKind) (place : ℕ) (larger_limit : Limits) → AsLarge (Same kind) usual larger_limit → (opened round : ℕ) → opened ≤ larger_limit.opened → round ≤ suc larger_limit.round → (ts : List Lexeme) (x : Program)
    → IsProgram (SpellsWithin false opened) (Low (SpellsWithin false opened) round) ts x → ProgramFits larger_limit x → spelled_of usual (ts ++> ends 0) ≡ Err (other (passed kind place)) → ⊥
unfolding Same calm calm_but
refuted kind place larger_limit large opened round le le2 ts x l fits h =
    let good = spelled_complete larger_limit opened round le le2 ts x l fits (ends 0) refl in
    let bad = subst (λ o. Lifted (Same kind) o (spelled_of larger_limit (ts ++> ends 0))) h (spelled_lifts (Same kind) usual larger_limit large (ts ++> ends 0)) refl in
    cc

unmet : (kind : LimitKind) (place : ℕ) (ts : List Lexeme) (x : Program) → IsWithinOne kind ts x → spelled_of usual (ts ++> ends 0) ≡ Err (other (passed kind place)) → ⊥
unfolding Same free
unmet limits.Variables place ts x w h =
    let o = w.0.0 in
    let r = w.0.1 in
    let limit : Limits = record { variables = usual.variables; processes = unlimited; statements = unlimited; opened = 32 + o; round = 32 + r } in
    let large : AsLarge (Same limits.Variables) usual limit = record { variables = inl (λ k. refl); processes = inr ((λ k e. refl), (λ p e. cc)); statements = inr ((λ k e. refl), (λ p e. cc)); opened = inr (omega arith, (λ p e. cc)); round = inr (omega arith, (λ p e. cc)) } in
    refuted limits.Variables place limit large o r (omega arith) (omega arith) ts x w.0.2 (program_fits limit x (λ k a b. below_is k (declared x.declarations + declared_inside x.processes) 64 b w.1) (λ k a b. refl) (λ k a b. refl)) h
unmet limits.Processes place ts x w h =
    let o = w.0.0 in
    let r = w.0.1 in
    let limit : Limits = record { variables = unlimited; processes = usual.processes; statements = unlimited; opened = 32 + o; round = 32 + r } in
    let large : AsLarge (Same limits.Processes) usual limit = record { variables = inr ((λ k e. refl), (λ p e. cc)); processes = inl (λ k. refl); statements = inr ((λ k e. refl), (λ p e. cc)); opened = inr (omega arith, (λ p e. cc)); round = inr (omega arith, (λ p e. cc)) } in
    refuted limits.Processes place limit large o r (omega arith) (omega arith) ts x w.0.2 (program_fits limit x (λ k a b. refl) (λ k a b. below_is k (length x.processes) 16 b w.1) (λ k a b. refl)) h
unmet limits.Statements place ts x w h =
    let o = w.0.0 in
    let r = w.0.1 in
    let limit : Limits = record { variables = unlimited; processes = unlimited; statements = usual.statements; opened = 32 + o; round = 32 + r } in
    let large : AsLarge (Same limits.Statements) usual limit = record { variables = inr ((λ k e. refl), (λ p e. cc)); processes = inr ((λ k e. refl), (λ p e. cc)); statements = inl (λ k. refl); opened = inr (omega arith, (λ p e. cc)); round = inr (omega arith, (λ p e. cc)) } in
    refuted limits.Statements place limit large o r (omega arith) (omega arith) ts x w.0.2 (program_fits limit x (λ k a b. refl) (λ k a b. refl) (λ k a b. below_is k (in_processes x.processes) 400 b w.1)) h
unmet limits.Nesting place ts x w h =
    let limit : Limits = record { variables = unlimited; processes = unlimited; statements = unlimited; opened = 32; round = 32 } in
    let large : AsLarge (Same limits.Nesting) usual limit = record { variables = inr ((λ k e. refl), (λ p e. cc)); processes = inr ((λ k e. refl), (λ p e. cc)); statements = inr ((λ k e. refl), (λ p e. cc)); opened = inl refl; round = inl refl } in
    refuted limits.Nesting place limit large 32 33 (omega arith) (omega arith) ts x w (program_fits limit x (λ k a b. refl) (λ k a b. refl) (λ k a b. refl)) h
unmet kind place ts x w h =
    let limit : Limits = free (32 + w.0) (32 + w.1) in
    let large : AsLarge (Same kind) usual limit = record { variables = inr ((λ k e. refl), (λ p e. cc)); processes = inr ((λ k e. refl), (λ p e. cc)); statements = inr ((λ k e. refl), (λ p e. cc)); opened = inr (omega arith, (λ p e. cc)); round = inr (omega arith, (λ p e. cc)) } in
    refuted kind place limit large w.0 w.1 (omega arith) (omega arith) ts x w.2 (free_fits (32 + w.0) (32 + w.1) x) h

abbrev one_limit : Passed → List Lexeme → Program → Type 0
one_limit (passed kind place) = IsWithinOne kind

unmet_limit : (p : Passed) (ts : List Lexeme) (x : Program) → one_limit p ts x → spelled_of usual (ts ++> ends 0) ≡ Err (other p) → ⊥
unmet_limit (passed kind place) ts x w h = unmet kind place ts x w h

met_there : (s : Stream) (kind : LimitKind) (place : ℕ) → program_of usual s ≡ Err (other (passed kind place)) → IsMet SpellsProgram (IsWithinOne kind) s
unfolding program_of Some_beyond Beyond
met_there s kind place h =
    met_as Some_beyond SpellsProgram to_spells from_spells (IsWithinOne kind) s
    (limit_met no_mode apart (quiet_apart usual) (spelled_of usual) (λ i. spelled_of (beyond usual i)) 0 Beyond (λ i. spelled_sound (beyond usual i)) all_beyond one_limit unmet_limit s (passed kind place) ((lawful_program usual).law s) h)

pub limits_are_met : LimitsAreMet
limits_are_met text kind place h = met_there (text_stream text) kind place (refused_alone (program_of usual (text_stream text)) (other (passed kind place)) h)

-- WHAT A CALL PROMISES
pub is_reading : {V : Type 0} (view : V → Program) (r : Result V ParseFault) (text : List ℕ) → Parses view r (parsed text) → IsReading view r text
is_reading view (Ok x) text h = what_is_read_is_spelled text (view x) h
is_reading view (Err e) text h = at_fault (see e) h
  where
    at_fault : (o : Option (Stop Passed)) → IsStop o (parsed text) → IsRefused text o
    at_fault None h = tt
    at_fault (Some f) h = (λ x s. let good = what_is_spelled_is_read text x s in cc, first_fault text f h)
