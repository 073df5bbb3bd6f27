-- Where the machine answers that a limit is passed, an ended token stands that is the first to pass one.
use Rattle.std.proofs.Common.{◌≡◌, ℕ, ◌+◌, ◌<◌, ◌^◌, Bool, true, false, cond, ◌||◌, inl, inr, List, [], ◌∷◌, ◌++◌, length, refl, sym, ap, ◌∙◌, subst, arith, append_assoc, ◌==◌}
use Rattle.std.proofs.lemmas.List.{length-append}
use Rattle.cert_text.specs.declared.scan.Word.{Word}
use Rattle.cert_text.specs.declared.scan.Word.TheVariants as words
use Rattle.cert_text.specs.declared.scan.Token.{Token}
use Rattle.cert_text.specs.declared.scan.Token.TheVariants as tokens
use Rattle.cert_text.specs.declared.scan.Want.{Want}
use Rattle.cert_text.specs.declared.scan.Want.TheVariants as wants
use Rattle.cert_text.specs.declared.scan.Scan.{Scan}
use Rattle.cert_text.specs.declared.scan.Action.{Action}
use Rattle.cert_text.specs.declared.scan.Action.TheVariants as actions
use Rattle.cert_text.specs.declared.scan.Given.TheVariants as givens
use Rattle.cert_text.specs.Control.{give, give_at}
use Rattle.cert_text.specs.Letters.{is_blank}
use Rattle.cert_text.specs.Tree.{Built, applied}
use Rattle.cert_text.specs.Reading.{State, going, malformed, over, whole, after, start}
use Rattle.cert_text.specs.Run.{scan_at}
use Rattle.cert_text.specs.Grammar.{tree_tokens}
use Rattle.cert_text.specs.Held.{Held}
use Rattle.cert_laws.specs.Spelled.{AreAll, IsSpelling, EndsAt, IsFront}
use Rattle.cert_laws.specs.Limits.{block_marks}
use Rattle.cert_laws.specs.Refused.{IsNext, BeginsEnded, IsFirstMarked, PassesLimit, LimitAt, runs_on}
use Rattle.cert_laws.proofs.Givens.{is_inside, OnlyOn}
use Rattle.cert_laws.proofs.Stays.{Stays, stays}
use Rattle.cert_laws.proofs.Ends.{Completes, AreSpellable, none_open}
use Rattle.cert_laws.proofs.Leads.{Leads, leads}
use Rattle.cert_laws.proofs.Follows.{as_read, IsQuiet, Follows}
use Rattle.cert_laws.proofs.TreeFollows.{block_follows}
use Rattle.cert_laws.proofs.Told.{Reads, HasEnded, Last, l_open, l_wrong, l_over, l_whole, Told}
use Rattle.cert_laws.proofs.Telling.{told}
use Rattle.cert_laws.proofs.Tails.{in_front, inside_to, tail_back}
use Rattle.cert_laws.proofs.Opens.{IsClear, clear_ends, spell}
use Rattle.cert_laws.proofs.Begun.{Start, none_built, is_next, IsSome, some_joined}
use Rattle.cert_laws.proofs.Marks.{exact_over, tokens_back, first_marked}
use Rattle.cert_laws.proofs.Fronts.{Fronts, f_none, f_header, f_behind, f_block, fronts, moved}
use Rattle.cert_laws.proofs.Ending.{runs_none, runs_first, runs_to_blank, ended_stops, front_stops, token_first, taken_spells}

no_truth : false ≡ true → ⊥
no_truth h = cc

-- outside of a block no limit is passed

wrong_over : givens.Wrong ≡ givens.Over → ⊥
wrong_over e = cc

on_over : (s : Scan) (a : Action) → givens.On s a ≡ givens.Over → ⊥
on_over s a e = cc

if_over : (c : Bool) (s : Scan) (a : Action) → cond c (givens.On s a) givens.Wrong ≡ givens.Over → ⊥
if_over true s a e = on_over s a e
if_over false s a e = wrong_over e

word_over : (header : Bool) (scan : Scan) (w : Word) → give_at (wants.Block header) scan (tokens.Word w) ≡ givens.Over → ⊥
word_over header scan words.Cert e = on_over _ _ e
word_over header scan words.Version e = if_over header _ _ e
word_over header scan words.Absurd e = wrong_over e
word_over header scan words.Farkas e = wrong_over e
word_over header scan words.Linear e = wrong_over e
word_over header scan words.Case e = wrong_over e
word_over header scan words.Truth e = wrong_over e
word_over header scan words.Split e = wrong_over e
word_over header scan words.Cut e = wrong_over e

outside_over : (want : Want) (scan : Scan) (t : Token) → is_inside want ≡ false → give_at want scan t ≡ givens.Over → ⊥
outside_over (wants.Block header) scan (tokens.Word w) i e = word_over header scan w e
outside_over (wants.Block header) scan (tokens.Number n) i e = wrong_over e
outside_over (wants.Block header) scan (tokens.Sign c) i e = wrong_over e
outside_over wants.HeaderNumber scan (tokens.Word w) i e = wrong_over e
outside_over wants.HeaderNumber scan (tokens.Number n) i e = if_over (n == 2) _ _ e
outside_over wants.HeaderNumber scan (tokens.Sign c) i e = wrong_over e
outside_over wants.HeaderEnd scan (tokens.Word w) i e = wrong_over e
outside_over wants.HeaderEnd scan (tokens.Number n) i e = wrong_over e
outside_over wants.HeaderEnd scan (tokens.Sign c) i e = if_over (c == 59) _ _ e
outside_over _ scan t i e = absurd (no_truth (sym i))

-- inside of a block taken tokens stay inside of it
pub reads_stay : (ts : List Token) (front next : List ℕ) (scan : Scan) (built : Built) (s : Scan) (b : Built) → is_inside scan.want ≡ true → Reads front ts next scan built s b → Stays scan s
reads_stay [] front next scan built s b i r = (ap (λ q. q.number) (sym r.1), ap (λ q. q.second) (sym r.1), ap (λ q. is_inside q.want) (sym r.1) ∙ i)
reads_stay (t ∷ ts) front next scan built s b i r =
    let st = subst (OnlyOn (Stays scan)) r.10 (stays scan.want scan t i) in
    let more = reads_stay ts r.2 next r.3 (applied r.4 built) s b st.2 r.11 in
    (more.0 ∙ st.0, more.1 ∙ st.1, more.2)

-- no sign is marked
pub marked_loud : (ts : List Token) (t : Token) (us : List Token) (ms : List Bool) (s : Scan) → Follows (ts ++ t ∷ us) ms s → IsFirstMarked ts ms → IsQuiet t true
marked_loud ts t us [] s f m = absurd m
marked_loud [] t us (c ∷ ms) s f m = subst (IsQuiet t) m f.3
marked_loud (v ∷ ts) t us (c ∷ ms) s f m = marked_loud ts t us ms f.0 (f.4 m.0).1 m.1

has_ended : (t : Token) (rest : List ℕ) → IsQuiet t true → HasEnded t rest → (behind : ℕ) × (more : List ℕ) × (rest ≡ behind ∷ more)
has_ended (tokens.Word w) rest q e = e
has_ended (tokens.Number n) rest q e = e
has_ended (tokens.Sign c) rest q e = absurd (no_truth (sym q))

pub clear_stops : (xs ys : List ℕ) → IsClear ys → runs_on xs ys ≡ false
clear_stops xs ys (inl e) = ap (runs_on xs) e ∙ runs_none xs
clear_stops xs ys (inr e) = ap (runs_on xs) e.1 ∙ runs_to_blank xs 32 e.0 refl

-- the bytes in common are what counts
pub joins_common : (zs ys ws : List ℕ) → IsSome zs → (t : Token) (xs : List ℕ) → EndsAt t (xs ++ (zs ++ ys)) → EndsAt t (xs ++ (zs ++ ws))
joins_common zs ys ws s t [] e = swap t (subst (λ l. EndsAt t (l ++ ys)) s.2 e) where
  swap : (u : Token) → EndsAt u (s.0 ∷ s.1 ++ ys) → EndsAt u (zs ++ ws)
  swap (tokens.Word w) h = subst (λ l. EndsAt (tokens.Word w) (l ++ ws)) (sym s.2) h
  swap (tokens.Number n) h = subst (λ l. EndsAt (tokens.Number n) (l ++ ws)) (sym s.2) h
  swap (tokens.Sign c) h = subst (λ l. EndsAt (tokens.Sign c) (l ++ ws)) (sym s.2) tt
joins_common zs ys ws s (tokens.Word w) (x ∷ xs) e = e
joins_common zs ys ws s (tokens.Number n) (x ∷ xs) e = e
joins_common zs ys ws s (tokens.Sign c) (x ∷ xs) e = tt

module _ (h : Held) (n : h.number < 2 ^ 32) where
  -- what was taken, and the token that passes a limit
  abbrev Taken : List ℕ → List Token → List ℕ → Scan → Built → Type 0
  Taken front ts next s b = Reads front ts next (Start h) none_built s b

  -- a text that goes on from the token with what completes it
  begins_ended : (front : List ℕ) (ts : List Token) (blanks cs rest : List ℕ) (t : Token) (s : Scan) (b : Built) (ks : List Token) → Taken front ts (blanks ++ (cs ++ rest)) s b → is_inside s.want ≡ true → AreAll is_blank blanks → IsSpelling cs t → Completes h.number s.second s.want s.depth (t ∷ ks) → AreSpellable ks → BeginsEnded h ((front ++ blanks) ++ cs)
  begins_ended front ts blanks cs rest t s b ks r i c sp d a =
      let p = spell ks a in
      let some = token_first t cs sp in
      let zs = some_joined blanks cs (some.0, some.1, some.2) in
      let tail = inside_to h.number s.second s.want s.depth (blanks ++ (cs ++ p.0)) i (t ∷ ks, in_front blanks cs p.0 t ks c sp (clear_ends t p.0 p.2) p.1, d) in
      let joins = λ (u : Token) (xs : List ℕ) (e : EndsAt u (xs ++ (blanks ++ (cs ++ rest)))). subst (λ l. EndsAt u (xs ++ l)) (append_assoc blanks cs p.0) (joins_common (blanks ++ cs) rest p.0 zs u xs (subst (λ l. EndsAt u (xs ++ l)) (sym (append_assoc blanks cs rest)) e)) in
      let text = is_next h (front ++ (blanks ++ (cs ++ p.0))) (tail_back h.number ts front (blanks ++ (cs ++ rest)) (blanks ++ (cs ++ p.0)) (Start h) none_built s b refl r joins tail) in
      (p.0, clear_stops ((front ++ blanks) ++ cs) p.0 p.2, subst (IsNext h) (sym (append_assoc (front ++ blanks) cs p.0 ∙ append_assoc front blanks (cs ++ p.0))) text)

  wider : h.number < 2 ^ 63
  wider = omega (arith, n)

  abbrev Found : List ℕ → List ℕ → List ℕ → Type 0
  Found front cs rest = (behind : ℕ) × (more : List ℕ) × (rest ≡ behind ∷ more) × BeginsEnded h (front ++ cs) × PassesLimit h front cs

  in_block : (front : List ℕ) (ts : List Token) (blanks cs rest : List ℕ) (t : Token) (s : Scan) (b : Built) (header : Bool) (head bs : List ℕ) (us : List Token) (flag : Bool) → Taken front ts (blanks ++ (cs ++ rest)) s b → front ≡ head ++ bs → IsFront header h head → Reads bs (tokens.Word words.Cert ∷ us) (blanks ++ (cs ++ rest)) (scan_at h.number (header || h.second) (wants.Block flag) 0 0) none_built s b → AreAll is_blank blanks → IsSpelling cs t → HasEnded t rest → give s (as_read t) ≡ givens.Over → Found (front ++ blanks) cs rest
  in_block front ts blanks cs rest t s b header head bs us flag r fe ff rd c sp e g =
      let second = header || h.second in
      let block = scan_at h.number second wants.BlockNumber 0 0 in
      let next = blanks ++ (cs ++ rest) in
      let inner = moved h next s b us rd.2 block rd.3 actions.Nothing rd.4 rd.10 rd.11 in
      let st = reads_stay us rd.2 next block none_built s b refl inner in
      let given = ap (λ m. give_at s.want (scan_at m s.second s.want s.depth s.trees) t) (sym st.0) ∙ exact_over t s g in
      let l = subst (Leads h.number s.second (Completes h.number s.second s.want s.depth) t) given (leads h.number s.second s.want s.depth s.trees t st.2) in
      let d = tokens_back h.number us rd.2 next block none_built s b (t ∷ l.0) refl refl inner l.1 in
      let tree = d.2 in
      let w = tree.0 in
      let all = ap (λ k. tokens.Word words.Cert ∷ k) (sym (d.1 ∙ ap (λ k. tokens.Number h.number ∷ k) (tree.2 ∙ ap (tree_tokens w) (none_open second 0 tree.1 tree.4 refl)))) in
      let follows = subst (λ k. Follows k (block_marks w) (scan_at h.number second (wants.Block flag) 0 0)) all (block_follows h.number second flag w wider tree.3) in
      let marked = first_marked (tokens.Word words.Cert ∷ us) bs next t l.0 (block_marks w) (scan_at h.number second (wants.Block flag) 0 0) none_built s b n rd follows g in
      let ended = has_ended t rest (marked_loud (tokens.Word words.Cert ∷ us) t l.0 (block_marks w) (scan_at h.number second (wants.Block flag) 0 0) follows marked) e in (
        ended.0,
        ended.1,
        ended.2,
        begins_ended front ts blanks cs rest t s b l.0 r st.2 c sp l.1 l.2,
        (header, head, bs, blanks, w, tokens.Word words.Cert ∷ us, t, l.0, ap (λ xs. xs ++ blanks) fe ∙ append_assoc head bs blanks, ff, taken_spells (tokens.Word words.Cert ∷ us) bs next (scan_at h.number second (wants.Block flag) 0 0) none_built s b rd, c, sp, all, tree.3, marked),
      )

  anywhere : (front : List ℕ) (ts : List Token) (blanks cs rest : List ℕ) (t : Token) (s : Scan) (b : Built) → Taken front ts (blanks ++ (cs ++ rest)) s b → AreAll is_blank blanks → IsSpelling cs t → HasEnded t rest → give s (as_read t) ≡ givens.Over → Fronts h front (blanks ++ (cs ++ rest)) ts s b → Found (front ++ blanks) cs rest
  anywhere front ts blanks cs rest t s b r c sp e g (f_none a v q) = absurd (outside_over s.want s (as_read t) (ap (λ x. is_inside x.want) q) g)
  anywhere front ts blanks cs rest t s b r c sp e g (f_header (inl q)) = absurd (outside_over s.want s (as_read t) (ap is_inside q) g)
  anywhere front ts blanks cs rest t s b r c sp e g (f_header (inr q)) = absurd (outside_over s.want s (as_read t) (ap is_inside q) g)
  anywhere front ts blanks cs rest t s b r c sp e g (f_behind a q) = absurd (outside_over s.want s (as_read t) (ap (λ x. is_inside x.want) q) g)
  anywhere front ts blanks cs rest t s b r c sp e g (f_block header head bs us flag fe ff rd) = in_block front ts blanks cs rest t s b header head bs us flag r fe ff rd c sp e g

  pub limit_told : (bytes : List ℕ) (place : ℕ) → after h.place (start h.number h.second) bytes ≡ over place → LimitAt h bytes place
  limit_told bytes place e = by (told bytes h.place (Start h) none_built (n, refl)) where
    place_in : ℕ → State → ℕ
    place_in m (going s b p) = m
    place_in m (malformed p) = m
    place_in m (over p) = p
    place_in m (whole end s b) = m

    from : (front : List ℕ) (ts : List Token) (next : List ℕ) (s : Scan) (b : Built) (at : ℕ) → bytes ≡ front ++ next → at ≡ h.place + length front → Taken front ts next s b → Last s b next at (after h.place (start h.number h.second) bytes) → LimitAt h bytes place
    from front ts next s b at f p r (l_open blanks cs o k c i q) = absurd (apart (sym e ∙ q)) where
      apart : over place ≡ going s b o → ⊥
      apart g = cc
    from front ts next s b at f p r (l_wrong blanks cs rest k c i j q) = absurd (apart (sym e ∙ q)) where
      apart : over place ≡ malformed (at + length blanks) → ⊥
      apart g = cc
    from front ts next s b at f p r (l_whole blanks cs rest t s1 a end k c i j x g z q) = absurd (apart (sym e ∙ q)) where
      apart : over place ≡ whole end s1 (applied a b) → ⊥
      apart v = cc
    from front ts next s b at f p r (l_over blanks cs rest t k c sp j o g q) =
        let r2 = subst (λ l. Taken front ts l s b) k r in
        let found = anywhere front ts blanks cs rest t s b r2 c sp o g (fronts h (blanks ++ (cs ++ rest)) s b ts front r2) in
        let stops = front_stops ts front blanks (cs ++ rest) (Start h) none_built s b r2 c in
        let some = token_first t cs sp in
        let seam = ap (runs_on (front ++ blanks)) some.2 ∙ runs_first (front ++ blanks) some.0 some.1 (some.1 ++ rest) ∙ ap (λ l. runs_on (front ++ blanks) (l ++ rest)) (sym some.2) ∙ stops in
        let len = length-append front blanks in
        let where_ = ap (place_in place) (sym e ∙ q) in
        (front ++ blanks, cs, found.0, found.1, f ∙ ap (λ l. front ++ l) (k ∙ ap (λ l. blanks ++ (cs ++ l)) found.2) ∙ sym (append_assoc front blanks (cs ++ found.0 ∷ found.1)), seam, ap (runs_on cs) (sym found.2) ∙ ended_stops t cs rest sp j, found.3, found.4, (let z : place ≡ h.place + length (front ++ blanks) = omega (arith, where_, p, len) in z))

    by : Told bytes h.place (Start h) none_built (after h.place (start h.number h.second) bytes) → LimitAt h bytes place
    by r = from r.0 r.1 r.2 r.3 r.4 r.5 r.6 r.7 r.8 r.9
