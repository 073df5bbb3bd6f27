-- A limit is named at a token over which programs go on, each of which passes it first.
use Rattle.std.proofs.Common.{◌≡◌, ℕ, suc, ◌+◌, false, List, [], ◌∷◌, ◌++◌, Ok, Err, ◌⊎◌, inl, inr, refl, sym, ap, subst, ◌∙◌, append_assoc, arith}
use Rattle.st_tokens.specs.declared.limit.LimitKind.{LimitKind}
use Rattle.st_tokens.specs.declared.limit.LimitKind.TheVariants as limits
use Rattle.st_tokens.specs.Stream.{◌++>◌, Lexeme, Stream, ends, breaks, more, text_stream}
use Rattle.st_reading.specs.Reading.{Stop, syntax, broken, other, Read, ◌>>=◌, refusal, then_reads, gives, at_end}
use Rattle.st_reading.specs.Faults.{Passed, passed}
use Rattle.st_reading.specs.Steady.{head, Viable, Cause, refused, over, SteadyAt, both, stops}
use Rattle.st_reading.specs.Theorem.{Begins}
use Rattle.st_reading.proofs.Streams.{append_stream, more_parts, same_text}
use Rattle.st_reading.proofs.Lifting.{Lifted}
use Rattle.expression_parser.specs.Grammar.{SpellsWithin}
use Rattle.spl_parser.specs.ProgramTree.{Program}
use Rattle.spl_parser.specs.Grammar.{Low, IsProgram, SpellsProgram}
use Rattle.spl_parser.specs.Programs.{Totals, totals, spelled_of, program_of, usual}
use Rattle.spl_parser.specs.Parsing.{alone}
use Rattle.spl_parser.proofs.BodyLaw.{apart}
use Rattle.spl_parser.proofs.ProgramLaw.{beyond, no_mode, lawful_program, quiet_apart}
use Rattle.spl_parser.proofs.ProgramSoundness.{spelled_sound}
use Rattle.spl_parser.proofs.ProgramLifting.{AsLarge, spelled_lifts}
use Rattle.program_limits.specs.Order.{program_counts, IsFirstPassed}
use Rattle.program_limits.specs.Theorems.{SpellsShallow, IsSettled, Concerned, LimitsAreSettled, OneIsSettled}
use Rattle.program_limits.proofs.Walking.{Meets, fits, passes}
use Rattle.program_limits.proofs.Within.{numbers, walk_first, first_walk}
use Rattle.program_limits.proofs.Whole.{spelled_meeting}

-- SOME PROGRAM BEGINS SO
begins_so : (ts : List Lexeme) → Viable no_mode apart (spelled_of (beyond usual 0)) ts → Begins SpellsProgram ts
begins_so ts v =
    let c = spelled_sound (beyond usual 0) (ts ++> (v.others ++> ends 0)) v.value (ends 0) (v.reads (ends 0) (quiet_apart usual)) in
    let e = same_text (ts ++ v.others) c.text 0 (append_stream ts v.others (ends 0) ∙ c.is) in
    (v.others, v.spelled, v.value, ((beyond usual 0).opened, suc (beyond usual 0).round, subst (λ (z : List Lexeme). IsProgram (SpellsWithin false (beyond usual 0).opened) (Low (SpellsWithin false (beyond usual 0).opened) (suc (beyond usual 0).round)) z v.value) (sym e) c.spells))

-- EACH THAT DOES PASSES THE LIMIT FIRST
-- not that on nesting
abbrev NotNesting : Passed → Type 0
NotNesting (passed limits.Nesting place) = ⊥
NotNesting (passed kind place) = Unit {0}

as_large : (o : ℕ) → AsLarge NotNesting usual (numbers (32 + o))
as_large o = record { variables = inl (λ k. refl); processes = inl (λ k. refl); statements = inl (λ k. refl); opened = inr (omega arith, (λ place h. h)); round = inl refl }

met_first : (o : ℕ) (c : Passed) (s : Stream) (x : Program) (rest : Stream) (u : Totals) → spelled_of (numbers o) s ≡ Err (other c) → Meets (numbers o) (spelled_of (numbers o) s) x rest (program_counts x) (totals 0 0 0) u → IsFirstPassed (program_counts x) c
met_first o c s x rest u bad (fits w e) = cc
met_first o c s x rest u bad (passes d w e) = let same : d ≡ c = cc in subst (IsFirstPassed (program_counts x)) same (walk_first o (program_counts x) d w)

-- with more levels of formulas the same limit is passed
as_deep : (o : ℕ) (c : Passed) (s : Stream) → NotNesting c → spelled_of usual s ≡ Err (other c) → spelled_of (numbers (32 + o)) s ≡ Err (other c)
as_deep o c s keep h = subst (λ r. Lifted NotNesting r (spelled_of (numbers (32 + o)) s)) h (spelled_lifts NotNesting usual (numbers (32 + o)) (as_large o) s) keep

passes_first : (c : Passed) → NotNesting c → (ts : List Lexeme) (x : Program) → SpellsProgram ts x → spelled_of usual (ts ++> ends 0) ≡ Err (other c) → IsFirstPassed (program_counts x) c
passes_first c keep ts x l h =
    let m = spelled_meeting (32 + l.0) l.0 l.1 (omega arith) ts x 0 l.2 in
    met_first (32 + l.0) c (ts ++> ends 0) x (ends 0) m.now (as_deep l.0 c (ts ++> ends 0) keep h) m.meets

shallow_first : (c : Passed) (ts : List Lexeme) (x : Program) → SpellsShallow ts x → spelled_of usual (ts ++> ends 0) ≡ Err (other c) → IsFirstPassed (program_counts x) c
shallow_first c ts x l h = let m = spelled_meeting 32 32 l.0 (omega arith) ts x 0 l.1 in met_first 32 c (ts ++> ends 0) x (ends 0) m.now h m.meets

concerned_first : (kind : LimitKind) (place : ℕ) (ts : List Lexeme) (x : Program) → Concerned kind ts x → spelled_of usual (ts ++> ends 0) ≡ Err (other (passed kind place)) → IsFirstPassed (program_counts x) (passed kind place)
concerned_first limits.Nesting place = shallow_first (passed limits.Nesting place)
concerned_first limits.Variables place = passes_first (passed limits.Variables place) tt
concerned_first limits.Processes place = passes_first (passed limits.Processes place) tt
concerned_first limits.Statements place = passes_first (passed limits.Statements place) tt
concerned_first limits.Text place = passes_first (passed limits.Text place) tt
concerned_first limits.Certificates place = passes_first (passed limits.Certificates place) tt
concerned_first limits.Nodes place = passes_first (passed limits.Nodes place) tt
concerned_first limits.Conditions place = passes_first (passed limits.Conditions place) tt
concerned_first limits.Atoms place = passes_first (passed limits.Atoms place) tt
concerned_first limits.Weight place = passes_first (passed limits.Weight place) tt
concerned_first limits.Paths place = passes_first (passed limits.Paths place) tt

-- WHERE THE READER STOPS
no_refusal : (rest : Stream) (f : Stop Passed) (c : Passed) → f ≡ refusal rest → f ≡ other c → ⊥
no_refusal (ends q) f c e h = let k : syntax q ≡ other c = sym e ∙ h in cc
no_refusal (breaks g) f c e h = let k : broken g ≡ other c = sym e ∙ h in cc
no_refusal (more t s) f c e h = let k : syntax t.start ≡ other c = sym e ∙ h in cc

module _ (L : List Lexeme → Program → Type 0) (s : Stream) (c : Passed) (first : (ts : List Lexeme) (x : Program) → L ts x → spelled_of usual (ts ++> ends 0) ≡ Err (other c) → IsFirstPassed (program_counts x) c) where
  met_over : (ts : List Lexeme) (t : Lexeme) (after : Stream) → s ≡ ts ++> more t after → ((z : Stream) → spelled_of usual (ts ++> more t z) ≡ Err (other c)) → Viable no_mode apart (spelled_of (beyond usual 0)) (ts ++ t ∷ []) → IsSettled L s c
  met_over ts t after e same v = record {
    text = ts ++ t ∷ [];
    rest = after;
    is = e ∙ sym (append_stream ts (t ∷ []) after);
    begins = begins_so (ts ++ t ∷ []) v;
    each = λ us x l. first ((ts ++ t ∷ []) ++ us) x l (ap (spelled_of usual) (append_stream (ts ++ t ∷ []) us (ends 0) ∙ append_stream ts (t ∷ []) (us ++> ends 0)) ∙ same (us ++> ends 0));
  }

  met_for : (ts : List Lexeme) (f : Stop Passed) (rest : Stream) → s ≡ ts ++> rest → f ≡ other c → ((after : Stream) → head after ≡ head rest → spelled_of usual (ts ++> after) ≡ Err f) → Cause no_mode apart (λ i. spelled_of (beyond usual i)) ts f rest → IsSettled L s c
  met_for ts f rest e h same (refused is k) = absurd (no_refusal rest f c is h)
  met_for ts f rest e h same (over x t after is next v) = met_over ts t after (e ∙ ap (λ m. ts ++> m) next) (λ z. same (more t z) (sym (ap head next)) ∙ ap Err h) (v 0)

  met_at : spelled_of usual s ≡ Err (other c) → SteadyAt no_mode apart (spelled_of usual) (λ i. spelled_of (beyond usual i)) s → IsSettled L s c
  met_at h (both ts x rest is go1 go2) = let good : spelled_of usual s ≡ Ok (x, rest) = ap (spelled_of usual) is ∙ go1 rest (inl refl) in cc
  met_at h (stops ts g rest is same v cause) =
      let bad : spelled_of usual s ≡ Err g = ap (spelled_of usual) is ∙ same rest refl in
      let same_fault : g ≡ other c = cc in
      met_for ts g rest is same_fault same cause

  met_whole : (o : Read Passed Program) → o ≡ spelled_of usual s → (o >>= λ x. then_reads at_end (λ e. gives x.0) x.1) ≡ Err (other c) → IsSettled L s c
  unfolding at_end
  met_whole (Err g) e h = let same : g ≡ other c = cc in met_at (sym e ∙ ap Err same) ((lawful_program usual).law s)
  met_whole (Ok (x, ends q)) e h = cc
  met_whole (Ok (x, breaks g)) e h = cc
  met_whole (Ok (x, more t after)) e h = cc

  met_there : program_of usual s ≡ Err (other c) → IsSettled L s c
  unfolding program_of
  met_there h = met_whole (spelled_of usual s) refl h

refused_alone : {A : Type 0} (o : Read Passed A) (f : Stop Passed) → alone o ≡ Err f → o ≡ Err f
refused_alone (Ok x) f h = cc
refused_alone (Err g) f h = let e : g ≡ f = cc in ap Err e

pub limits_are_settled : LimitsAreSettled
limits_are_settled text kind place h = met_there (Concerned kind) (text_stream text) (passed kind place) (concerned_first kind place) (refused_alone (program_of usual (text_stream text)) (other (passed kind place)) h)

-- NO TEXT SETTLES TWO
-- of two beginnings of one stream, one begins the other
nested : (a b : List Lexeme) (m n : Stream) → a ++> m ≡ b ++> n → ((d : List Lexeme) × (b ≡ a ++ d)) ⊎ ((d : List Lexeme) × (a ≡ b ++ d))
nested [] b m n h = inl (b, refl)
nested (t ∷ a) [] m n h = inr (t ∷ a, refl)
nested (t ∷ a) (u ∷ b) m n h = let k = more_parts t u (a ++> m) (b ++> n) h in further k.0 (nested a b m n k.1)
  where
    further : t ≡ u → ((d : List Lexeme) × (b ≡ a ++ d)) ⊎ ((d : List Lexeme) × (a ≡ b ++ d)) → ((d : List Lexeme) × (u ∷ b ≡ (t ∷ a) ++ d)) ⊎ ((d : List Lexeme) × (t ∷ a ≡ (u ∷ b) ++ d))
    further e (inl (d, f)) = inl (d, ap (λ w. w ∷ b) (sym e) ∙ ap (λ z. t ∷ z) f)
    further e (inr (d, f)) = inr (d, ap (λ w. w ∷ a) e ∙ ap (λ z. u ∷ z) f)

same_first : (x : Program) (c d : Passed) → IsFirstPassed (program_counts x) c → IsFirstPassed (program_counts x) d → c ≡ d
same_first x c d f g = let h = first_walk 32 (program_counts x) c f in let k = first_walk 32 (program_counts x) d g in cc

-- the shorter one settles what the longer one does
settled_alike : (s : Stream) (c d : Passed) (a : IsSettled SpellsProgram s c) (b : IsSettled SpellsProgram s d) → (e : List Lexeme) → b.text ≡ a.text ++ e → c ≡ d
settled_alike s c d a b e is =
    let us = b.begins.0 in
    let x = b.begins.2 in
    let l = b.begins.3 in
    same_first x c d (a.each (e ++ us) x (subst (λ (z : List Lexeme). SpellsProgram z x) (ap (λ w. w ++ us) is ∙ append_assoc a.text e us) l)) (b.each us x l)

pub one_limit_is_settled : OneIsSettled
one_limit_is_settled s c d a b = at (nested a.text b.text a.rest b.rest (sym a.is ∙ b.is))
  where
    at : ((e : List Lexeme) × (b.text ≡ a.text ++ e)) ⊎ ((e : List Lexeme) × (a.text ≡ b.text ++ e)) → c ≡ d
    at (inl (e, is)) = settled_alike s c d a b e is
    at (inr (e, is)) = sym (settled_alike s d c b a e is)
