-- The lists that a list is split into.
use Rattle.std.proofs.Common.{◌≡◌, ℕ, ◌+◌, ◌-◌, ◌<◌, ◌≤◌, List, [], ◌∷◌, ◌++◌, length, take, drop, get_or, refl, ap, subst, ◌∙◌, sym, arith}
use Rattle.std.proofs.lemmas.List.{take_more, take_all, length-drop}
use Rattle.std.proofs.lemmas.List.Elements.{All-append, All-take, All-drop}
use Rattle.st_form.specs.Formula.{Formula, Formulas, every, none, more}
use Rattle.st_form.specs.Simple.{append, opened}
use Rattle.st_form.proofs.Simples.{append-assoc}
use Rattle.farkas_check.specs.Problem.{in_place}
use Rattle.form_table.specs.Table.{formula, listed, AreThere, Is, Extends}
use Rattle.form_table.specs.Lists.{AreLists}
use Rattle.form_table.proofs.Making.{is-later, listed-later}
use Rattle.form_table.proofs.Taking.{listed-append}

pub begun : (new old rest : List ℕ) → new ≡ old ++ rest → old ≡ [] → new ≡ rest
begun new old rest e h = e ∙ ap (λ x. x ++ rest) h

-- the conjuncts before a disjunction, the parts of a disjunct, and the conjuncts behind
pub placed : (ts : List Formula) (parts b m v o : List ℕ) (f : Formula) (place k n : ℕ) → k ≡ place → n ≡ length parts - (place + 1) → b ≡ take k parts → m ≡ b ++ o → v ≡ m ++ take n (drop (place + 1) parts)
    → listed ts o ≡ opened f → listed ts v ≡ append (listed ts (take place parts)) (append (opened f) (listed ts (drop (place + 1) parts)))
placed ts parts b m v o f place k n i j x y z e =
    let whole : take n (drop (place + 1) parts) ≡ drop (place + 1) parts = take_all n (drop (place + 1) parts) (omega (arith, j, length-drop (place + 1) parts)) in
    let first : b ≡ take place parts = x ∙ ap (λ q. take q parts) i in
    let middle : listed ts m ≡ append (listed ts (take place parts)) (opened f) =
    ap (listed ts) y ∙ listed-append ts b o ∙ ap (λ l. append (listed ts l) (listed ts o)) first ∙ ap (append (listed ts (take place parts))) e in
    ap (listed ts) z ∙ listed-append ts m (take n (drop (place + 1) parts)) ∙ ap (λ l. append l (listed ts (take n (drop (place + 1) parts)))) middle
    ∙ ap (λ l. append (append (listed ts (take place parts)) (opened f)) (listed ts l)) whole
    ∙ append-assoc (listed ts (take place parts)) (opened f) (listed ts (drop (place + 1) parts))

there-take : (ts : List Formula) (ns : List ℕ) (k : ℕ) → AreThere ts ns → AreThere ts (take k ns)
there-take ts ns k h = All-take (λ i. i < length ts) k ns h

there-drop : (ts : List Formula) (ns : List ℕ) (k : ℕ) → AreThere ts ns → AreThere ts (drop k ns)
there-drop ts ns k h = All-drop (λ i. i < length ts) k ns h

pub placed-there : (ts : List Formula) (parts b m v o : List ℕ) (place k n : ℕ) → b ≡ take k parts → m ≡ b ++ o → v ≡ m ++ take n (drop (place + 1) parts)
    → AreThere ts parts → AreThere ts o → AreThere ts v
placed-there ts parts b m v o place k n x y z h g =
    let P : List ℕ → Type 0 = λ l. AreThere ts l in
    let first : AreThere ts b = subst P (sym x) (there-take ts parts k h) in
    let middle : AreThere ts m = subst P (sym y) (All-append (λ i. i < length ts) b o first g) in
    subst P (sym z) (All-append (λ i. i < length ts) m (take n (drop (place + 1) parts)) middle (there-take ts (drop (place + 1) parts) n (there-drop ts parts (place + 1) h)))

-- ---- lists, one after the other
pub lists-later : (ts us : List Formula) (ns : List ℕ) (lists : List Formulas) → Extends ts us → AreLists ts ns lists → AreLists us ns lists
lists-later ts us [] [] e h = tt
lists-later ts us [] (fs ∷ rest) e h = h
lists-later ts us (n ∷ ns) [] e h = h
lists-later ts us (n ∷ ns) (fs ∷ rest) e h = (is-later ts us n (every fs) e h.0, lists-later ts us ns rest e h.1)

lists-push : (ts : List Formula) (ns : List ℕ) (lists : List Formulas) (n : ℕ) (fs : Formulas) → AreLists ts ns lists → Is ts n (every fs) → AreLists ts (ns ++ n ∷ []) (lists ++ fs ∷ [])
lists-push ts [] [] n fs h k = (k, tt)
lists-push ts [] (gs ∷ rest) n fs h k = absurd h
lists-push ts (m ∷ ns) [] n fs h k = absurd h
lists-push ts (m ∷ ns) (gs ∷ rest) n fs h k = (h.0, lists-push ts ns rest n fs h.1 k)

in-place-push : (before gs behind : Formulas) (g : Formula) → in_place before (append gs (more g none)) behind ≡ in_place before gs behind ++ append before (append (opened g) behind) ∷ []
in-place-push before none behind g = refl
in-place-push before (more f gs) behind g = ap (λ l. append before (append (opened f) behind) ∷ l) (in-place-push before gs behind g)

-- the list of one disjunct more
pub split-more : (ts us vs : List Formula) (parts ds out new w : List ℕ) (place i n : ℕ) → Extends ts us → Extends us vs → AreThere ts parts → AreThere ts ds → i < length ds
    → AreLists us out (in_place (listed ts (take place parts)) (listed ts (take i ds)) (listed ts (drop (place + 1) parts)))
    → listed us w ≡ append (listed us (take place parts)) (append (opened (formula us (get_or ds i 0))) (listed us (drop (place + 1) parts)))
    → Is vs n (every (listed us w)) → new ≡ out ++ n ∷ []
    → AreLists vs new (in_place (listed ts (take place parts)) (listed ts (take (i + 1) ds)) (listed ts (drop (place + 1) parts)))
split-more ts us vs parts ds out new w place i n e x p d l h k m a =
    let before : Formulas = listed ts (take place parts) in
    let behind : Formulas = listed ts (drop (place + 1) parts) in
    let f : Formula = formula ts (get_or ds i 0) in
    let one : listed us (take place parts) ≡ before = listed-later ts us (take place parts) e (there-take ts parts place p) in
    let two : listed us (drop (place + 1) parts) ≡ behind = listed-later ts us (drop (place + 1) parts) e (there-drop ts parts (place + 1) p) in
    let there : get_or ds i 0 < length ts = d i 0 l in
    let three : formula us (get_or ds i 0) ≡ f = e.same (get_or ds i 0) there in
    let whole : listed us w ≡ append before (append (opened f) behind) =
    k ∙ ap (λ q. append q (append (opened (formula us (get_or ds i 0))) (listed us (drop (place + 1) parts)))) one
    ∙ ap (λ q. append before (append (opened q) (listed us (drop (place + 1) parts)))) three ∙ ap (λ q. append before (append (opened f) q)) two in
    let next : listed ts (take (i + 1) ds) ≡ append (listed ts (take i ds)) (more f none) = ap (listed ts) (take_more ds i 0 l) ∙ listed-append ts (take i ds) (get_or ds i 0 ∷ []) in
    let lists : in_place before (listed ts (take (i + 1) ds)) behind ≡ in_place before (listed ts (take i ds)) behind ++ append before (append (opened f) behind) ∷ [] =
    ap (λ q. in_place before q behind) next ∙ in-place-push before (listed ts (take i ds)) behind f in
    let P : List Formulas → Type 0 = λ q. AreLists vs new q in
    let Q : List ℕ → Type 0 = λ q. AreLists vs q (in_place before (listed ts (take i ds)) behind ++ append before (append (opened f) behind) ∷ []) in
    let made : Is vs n (every (append before (append (opened f) behind))) = (m.0, m.1 ∙ ap every whole) in
    subst P (sym lists) (subst Q (sym a) (lists-push vs out (in_place before (listed ts (take i ds)) behind) n (append before (append (opened f) behind)) (lists-later us vs out (in_place before (listed ts (take i ds)) behind) x h) made))

-- all disjuncts
pub split-all : (ts us : List Formula) (ds out : List ℕ) (before behind : Formulas) (i : ℕ) → length ds ≤ i → AreLists us out (in_place before (listed ts (take i ds)) behind) → AreLists us out (in_place before (listed ts ds) behind)
split-all ts us ds out before behind i l h =
    let P : List ℕ → Type 0 = λ q. AreLists us out (in_place before (listed ts q) behind) in
    subst P (take_all i ds l) h
