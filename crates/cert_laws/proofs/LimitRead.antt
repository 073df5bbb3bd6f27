-- Where an ended token is the first to pass a limit, the machine answers that.
use Rattle.std.proofs.Common.{◌≡◌, ℕ, ◌+◌, ◌<◌, ◌^◌, Bool, true, false, ◌||◌, List, [], ◌∷◌, ◌++◌, length, refl, sym, ap, ◌∙◌, subst, arith, append_assoc}
use Rattle.std.proofs.lemmas.List.{length-append, append-nil}
use Rattle.cert_text.specs.declared.scan.Token.{Token}
use Rattle.cert_text.specs.Letters.{is_blank}
use Rattle.cert_text.specs.declared.scan.Want.TheVariants as wants
use Rattle.cert_text.specs.Reading.{going, idle, over, after, start}
use Rattle.cert_text.specs.Run.{scan_at}
use Rattle.cert_text.specs.Grammar.{IsProper}
use Rattle.cert_text.specs.Held.{Held}
use Rattle.cert_laws.specs.Spelled.{AreAll, EndsAt, Spells, IsFront}
use Rattle.cert_laws.specs.Refused.{LimitAt, runs_on}
use Rattle.cert_laws.proofs.HeaderRead.{header_taken, first_start}
use Rattle.cert_laws.proofs.Begun.{first_of, none_built, same_first}
use Rattle.cert_laws.proofs.Forward.{SpelledTo}
use Rattle.cert_laws.proofs.NeverWrong.{block_over}
use Rattle.cert_laws.proofs.Ending.{runs_behind, runs_first, runs_to_blank, stops_ended, token_first}

pub spelled_to : (ts : List Token) (bs next : List ℕ) → Spells bs ts → runs_on bs next ≡ false → SpelledTo bs ts next
spelled_to [] bs next h e = h
spelled_to (t ∷ ts) bs next h e = by h.2 refl (λ f. spelled_to ts h.2 next h.7 f) where
  by : (rest : List ℕ) → h.2 ≡ rest → (runs_on h.2 next ≡ false → SpelledTo h.2 ts next) → SpelledTo bs (t ∷ ts) next
  by (x ∷ xs) q more =
      let f = ap (λ l. runs_on l next) (sym (h.3 ∙ ap (λ l. h.0 ++ (h.1 ++ l)) q ∙ sym (append_assoc h.0 h.1 (x ∷ xs)))) ∙ e in
      (h.0, h.1, h.2, h.3, h.4, h.5, same_first t xs h.2 next x q h.6, more (ap (λ l. runs_on l next) q ∙ sym (runs_behind (h.0 ++ h.1) x xs next) ∙ f))
  by [] q more =
      let g = token_first t h.1 h.5 in
      let f = ap (λ l. runs_on l next) (ap (λ l. h.0 ++ l) (sym (append-nil h.1 ∙ g.2)) ∙ ap (λ l. h.0 ++ (h.1 ++ l)) (sym q) ∙ sym h.3) ∙ e in
      (h.0, h.1, h.2, h.3, h.4, h.5, subst (λ l. EndsAt t (l ++ next)) (sym q) (stops_ended t h.1 next h.5 (ap (λ l. runs_on l next) g.2 ∙ sym (runs_behind h.0 g.0 g.1 next) ∙ f)), more (ap (λ l. runs_on l next) q))

-- what runs on into nothing behind blanks doesn't in front of them
before_blanks : (head bs blanks cs more : List ℕ) (c : ℕ) (tail : List ℕ) → cs ≡ c ∷ tail → AreAll is_blank blanks → runs_on (head ++ (bs ++ blanks)) cs ≡ false → runs_on bs (blanks ++ (cs ++ more)) ≡ false
before_blanks head [] blanks cs more c tail e b h = refl
before_blanks head (x ∷ bs) (y ∷ blanks) cs more c tail e b h = runs_to_blank (x ∷ bs) y (blanks ++ (cs ++ more)) b.0
before_blanks head (x ∷ bs) [] cs more c tail e b h =
    ap (λ l. runs_on (x ∷ bs) (l ++ more)) e
    ∙ runs_first (x ∷ bs) c (tail ++ more) tail
    ∙ ap (runs_on (x ∷ bs)) (sym e)
    ∙ sym (runs_behind head x bs cs)
    ∙ ap (λ l. runs_on (head ++ l) cs) (sym (append-nil (x ∷ bs)))
    ∙ h

-- from the start, over a header or none
from_start : (h : Held) (header : Bool) (head text : List ℕ) (k : ℕ) → IsFront header h head → ((second flag : Bool) (at : ℕ) → second ≡ (header || h.second) → after at (going (scan_at h.number second (wants.Block flag) 0 0) none_built idle) text ≡ over (at + k)) → after h.place (start h.number h.second) (head ++ text) ≡ over (h.place + length head + k)
from_start h false head text k f go =
    ap (λ l. after h.place (start h.number h.second) (l ++ text)) f
    ∙ go h.second (first_of h) h.place refl
    ∙ ap over (none h.place ∙ ap (λ l. h.place + length l + k) (sym f)) where
      none : (m : ℕ) → m + k ≡ m + 0 + k
      none m = omega arith
from_start h true head text k f go =
    ap (λ q. after h.place q (head ++ text)) (first_start h.number h.second f.0 f.1)
    ∙ header_taken h.number none_built head text h.place f.2
    ∙ go true false (h.place + length head) refl

pub limit_read : (h : Held) (bytes : List ℕ) (place : ℕ) → h.number < 2 ^ 32 → LimitAt h bytes place → after h.place (start h.number h.second) bytes ≡ over place
limit_read h bytes place n d =
    let cs = d.1 in
    let next = cs ++ d.2 ∷ d.3 in
    let p = d.8 in
    let head = p.1 in
    let bs = p.2 in
    let blanks = p.3 in
    let some = token_first p.6 cs p.12 in
    let seam = before_blanks head bs blanks cs (d.2 ∷ d.3) some.0 some.1 some.2 p.11 (ap (λ l. runs_on l cs) (sym p.8) ∙ d.5) in
    let spelled = spelled_to p.5 bs (blanks ++ next) p.10 seam in
    let ends = stops_ended p.6 cs (d.2 ∷ d.3) p.12 d.6 in
    let text = d.4 ∙ ap (λ l. l ++ next) p.8 ∙ append_assoc head (bs ++ blanks) next ∙ ap (λ l. head ++ l) (append_assoc bs blanks next) in
    let len = ap length p.8 ∙ length-append head (bs ++ blanks) in
    let len2 = length-append bs blanks in
    let there = d.9 in
    ap (after h.place (start h.number h.second)) text
    ∙ from_start h p.0 head (bs ++ (blanks ++ next)) (length bs + length blanks) p.9 (λ second flag at q.
    block_over h.number second flag p.4 p.5 p.6 p.7 bs blanks cs d.2 d.3 at n (subst (λ v. IsProper v p.4) (sym q) p.14) p.13 p.15 spelled p.11 p.12 ends
    ∙ ap over (let z : at + length bs + length blanks ≡ at + (length bs + length blanks) = omega arith in z))
    ∙ ap over (let z : h.place + length head + (length bs + length blanks) ≡ place = omega (arith, len, len2, there) in z)
