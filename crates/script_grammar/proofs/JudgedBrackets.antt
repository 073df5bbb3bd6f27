-- Lists of items in brackets, of which there are at most 64.
use Rattle.std.proofs.Common.{◌≡◌, ℕ, ◌+◌, Bool, true, false, cond, List, [], ◌∷◌, ◌++◌, length, Ok, Err, refl, sym, ap, subst, ◌∙◌, arith, append_assoc, append-nil}
use Rattle.std.specs.Prelude.{codes, nat_lt, ◌||◌}
use Rattle.st_tokens.specs.declared.kind.TokenKind.TheVariants as kinds
use Rattle.st_tokens.specs.Stream.{Lexeme, Stream, ends, IsSpelled}
use Rattle.st_reading.specs.declared.mark.Mark.TheVariants as marks
use Rattle.st_reading.specs.declared.sign.Sign.{Sign}
use Rattle.st_reading.specs.declared.sign.Sign.TheVariants as signs
use Rattle.st_reading.specs.Mark.{number}
use Rattle.st_reading.specs.Sign.{is}
use Rattle.st_reading.specs.Reading.{Read, ◌>>=◌, syntax, expected, gives, then_reads}
use Rattle.st_reading.specs.Breaches.{Breach, Reader}
use Rattle.st_reading.specs.BrokenRules.{Broken}
use Rattle.st_reading.specs.Phrases.{after_mark}
use Rattle.st_reading.specs.Spelling.{Is, behind_it, row}
use Rattle.st_reading.specs.Steady.{Within, Wide, moves, wider, anything}
use Rattle.st_reading.proofs.Numbers.{is_marked}
use Rattle.st_reading.proofs.Tokens.{among, but, marks_within}
use Rattle.st_reading.proofs.Phrases.{made}
use Rattle.st_reading.proofs.ListSoundness.{one_mark}
use Rattle.st_reading.proofs.Steadiness.{bind_ok}
use Rattle.st_reading.proofs.LawfulPhrases.{LawfulPhrase, map_lawful, mark_lawful, as_lawful}
use Rattle.st_reading.proofs.JudgedParts.{Turns}
use Rattle.proof_script.specs.Listing.{bracketed, further_counted}
use Rattle.script_grammar.specs.RawScripts.{RawUnit}
use Rattle.script_grammar.specs.Sizes.{bracketed_size, marked_size}
use Rattle.script_grammar.specs.Grammar.{InBrackets, in_brackets}
use Rattle.script_grammar.specs.Breaking.{listed_rules, one_too_many_rules}
use Rattle.script_grammar.proofs.JudgedPairs.{both_of, pair_lawful, after_lawful, made_lawful}
use Rattle.script_grammar.proofs.Judges.{Judges, Whatever, pair_so, weaker_so, seen_so, as_so, after_so, plain_mark_so, regroup}
use Rattle.script_grammar.proofs.MarkedItems.{further_none, items_lawful, items_front, items_or_next}
use Rattle.script_grammar.proofs.JudgedLists.{counted_so, Grows}

abbrev pub symbol : List ℕ → Lexeme
symbol text = record { kind = kinds.Symbol; text = text; start = 0 }

abbrev pub open_token : Lexeme
open_token = symbol (codes "[")

abbrev pub close_token : Lexeme
close_token = symbol (codes "]")

pub open_spelled : IsSpelled open_token
open_spelled = refl

pub close_spelled : IsSpelled close_token
close_spelled = refl

pub open_is : Is marks.OpenBlock open_token
unfolding number
open_is = refl

pub close_is : Is marks.CloseBlock close_token
unfolding number
close_is = refl

abbrev pub closing : Sign → Bool
closing = among (marks.CloseBlock ∷ [])

pub closing_clear : Within closing (but marks.Semicolon)
unfolding number
closing_clear = marks_within (but marks.Semicolon) (marks.CloseBlock ∷ []) refl

module _ {R : Type 0} (front inner : Sign → Bool) (between : inner (signs.Marked marks.Semicolon) ≡ true) (closes : inner (signs.Marked marks.CloseBlock) ≡ true) (quiet : inner signs.Nothing ≡ true) (p : LawfulPhrase Breach R front inner) (fits : Wide front inner inner p.phrase.reader) where
  pub closing_fewer : Within closing inner
  closing_fewer = marks_within inner (marks.CloseBlock ∷ []) (rw closes refl)

  abbrev pub others : LawfulPhrase Breach (List R) (items_front marks.Semicolon front inner closing between closing_clear closing_fewer p) closing
  others = items_lawful marks.Semicolon front inner closing between closing_clear closing_fewer p

  abbrev pub others_front : Sign → Bool
  others_front = items_front marks.Semicolon front inner closing between closing_clear closing_fewer p

  pub others_inner : Within others_front inner
  others_inner g h = at_test (is g marks.Semicolon) refl h
    where
      at_test : (b : Bool) → is g marks.Semicolon ≡ b → (b || closing g) ≡ true → inner g ≡ true
      at_test true e h = ap inner (is_marked g marks.Semicolon e) ∙ between
      at_test false e h = closing_fewer g h

  abbrev pub close_lawful : LawfulPhrase Breach ℕ closing anything
  close_lawful = mark_lawful marks.CloseBlock close_token close_spelled close_is (rw close_is refl)

  -- the others, and "]"
  abbrev pub tail_lawful : LawfulPhrase Breach (List R × ℕ) others_front anything
  tail_lawful = pair_lawful others_front closing closing anything (λ g h. h) refl others (wider (items_or_next marks.Semicolon front inner closing between closing_clear closing_fewer p)) close_lawful refl

  pub tail_needs : tail_lawful.phrase.reader (ends 0) ≡ Err (syntax 0)
  tail_needs = bind_ok others.phrase.reader (λ xs. then_reads (expected marks.CloseBlock) (λ m. gives (both_of xs m))) (ends 0) [] (ends 0) (further_none marks.Semicolon p.phrase.reader p.lawful.one [] (ends 0) refl)

  abbrev pub head_lawful : LawfulPhrase Breach R (among (marks.OpenBlock ∷ [])) inner
  head_lawful = after_lawful marks.OpenBlock open_token open_spelled open_is front inner p fits

  abbrev pub the_list : R × (List R × ℕ) → List R
  the_list q = q.0 ∷ q.1.0

  abbrev pub parts_lawful : LawfulPhrase Breach (R × (List R × ℕ)) (among (marks.OpenBlock ∷ [])) anything
  parts_lawful = pair_lawful (among (marks.OpenBlock ∷ [])) inner others_front anything others_inner refl head_lawful (moves quiet (syntax 0) refl) tail_lawful tail_needs

  abbrev pub list_lawful : LawfulPhrase Breach (List R) (among (marks.OpenBlock ∷ [])) anything
  list_lawful = made_lawful (among (marks.OpenBlock ∷ [])) anything the_list parts_lawful (moves refl (syntax 0) refl)

  pub to_brackets : (ts : List Lexeme) (xs : List R) → list_lawful.phrase.language ts xs → InBrackets p.phrase.language ts xs
  to_brackets ts xs (made us q (behind_it a b x z (after_mark t ta y e l) (made vs w (behind_it c d ys v items (made ws n (one_mark u f)))))) =
      subst (λ (k : List Lexeme). InBrackets p.phrase.language (t ∷ k) (y ∷ ys)) (append_assoc ta c (u ∷ [])) (in_brackets t u (ta ++ c) (y ∷ ys) e (row ta c y ys l items) f)

  pub from_brackets : (ts : List Lexeme) (xs : List R) → InBrackets p.phrase.language ts xs → list_lawful.phrase.language ts xs
  from_brackets ts xs (in_brackets t u us zs e (row a b y ys l items) f) =
      subst (λ (k : List Lexeme). list_lawful.phrase.language (t ∷ k) (y ∷ ys)) (sym (append_assoc a b (u ∷ [])))
      (made (t ∷ (a ++ (b ++ u ∷ []))) (both_of y (both_of ys u.start)) (behind_it (t ∷ a) (b ++ u ∷ []) y (both_of y (both_of ys u.start)) (after_mark t a y e l) (made (b ++ u ∷ []) (both_of ys u.start) (behind_it b (u ∷ []) ys (both_of ys u.start) items (made (u ∷ []) u.start (one_mark u f))))))

  abbrev pub brackets_lawful : LawfulPhrase Breach (List R) (among (marks.OpenBlock ∷ [])) anything
  brackets_lawful = as_lawful (among (marks.OpenBlock ∷ [])) anything list_lawful (InBrackets p.phrase.language) to_brackets from_brackets

  -- JUDGED
  module _ {A : Type 0} (form : R → RawUnit) (size : R → ℕ) (rules : ℕ → R → List (Broken Breach)) (r : ℕ → Reader A) (item : (before : ℕ) → Judges inner (r before) p.phrase.reader size (λ at x. cond (nat_lt before 64) (rules at x) (one_too_many_rules at (form x))) Whatever) where
    abbrev loop : List A → Reader (List A)
    loop xs = further_counted marks.Semicolon r xs

    abbrev ended : List A → Reader (List A)
    ended xs = then_reads (expected marks.CloseBlock) (λ m. gives xs)

    abbrev first : Reader A
    first = then_reads (expected marks.OpenBlock) (λ m. r 0)

    abbrev tail : A → Reader (List A)
    tail x = then_reads (loop (x ∷ [])) ended

    abbrev grouped : ℕ → Reader (List A)
    grouped m = then_reads (then_reads (r 0) (λ x. loop (x ∷ []))) ended

    abbrev apart : ℕ → Reader (List A)
    apart m = then_reads (r 0) tail

    brackets_are : (s : Stream) → bracketed r s ≡ then_reads first tail s
    brackets_are s = at_read (expected marks.OpenBlock s) ∙ sym (regroup (expected marks.OpenBlock) (λ m. r 0) tail s)
      where
        at_read : (o : Read Breach ℕ) → (o >>= λ m. grouped m.0 m.1) ≡ (o >>= λ m. apart m.0 m.1)
        at_read (Ok m) = regroup (r 0) (λ x. loop (x ∷ [])) ended m.1
        at_read (Err f) = refl

    abbrev list_rules : ℕ → List R → List (Broken Breach)
    list_rules at xs = listed_rules form size rules 0 at xs

    tail_so : (x : A) → Judges anything (tail x) tail_lawful.phrase.reader (λ q. marked_size size q.0 + 1) (λ at q. listed_rules form size rules 1 at q.0 ++ []) Whatever
    tail_so x =
        pair_so {makes = Whatever} (λ g h. h) close_lawful (moves refl (syntax 0) refl)
        (counted_so marks.Semicolon front inner closing between closing_clear closing_fewer p fits size rules form r item (x ∷ []) 1 refl)
        (λ rs xs m. weaker_so Whatever (λ n a m. tt) (plain_mark_so marks.CloseBlock xs))

    pub brackets_so : Judges anything (bracketed r) brackets_lawful.phrase.reader (bracketed_size size) list_rules Whatever
    brackets_so =
        as_so (bracketed r) brackets_lawful.phrase.reader brackets_are (λ s. refl)
        (seen_so the_list (bracketed_size size) list_rules Whatever (λ q. omega arith) (λ at q. ap (λ z. cond (nat_lt 0 64) (rules (at + 1) q.0) (one_too_many_rules (at + 1) (form q.0)) ++ z) (sym (append-nil (listed_rules form size rules 1 (at + (1 + size q.0)) q.1.0)))) (λ q xs m. tt)
        (pair_so {makes = Whatever} others_inner tail_lawful (moves refl (syntax 0) tail_needs) (after_so marks.OpenBlock p fits (item 0)) (λ b a m. tail_so a)))
