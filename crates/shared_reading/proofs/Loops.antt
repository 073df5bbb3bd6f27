-- Words read one behind the other: what is read so far, in front of what is read of the rest.
use Rattle.std.proofs.Common.{append_assoc, ◌≡◌, ℕ, ◌+◌, ◌<◌, ◌≤◌, Bool, true, false, List, [], ◌∷◌, ◌++◌, length, map, drop, get_or, refl, ap, subst, ◌∙◌, sym, Result, Ok, Err, nat_lt, cond}
use Rattle.std.specs.Borrow.{Bor}
use Rattle.std.proofs.lemmas.List.{append-nil, drop_all, drop_more, length-map}
use Rattle.shared_certificates.specs.declared.refusals.Refusal.{Refusal}
use Rattle.shared_certificates.specs.declared.refusals.Refusal.TheVariants.{Malformed, Limit, Memory}
use Rattle.std.specs.Result.{IsErrAnd}
use Rattle.shared_certificates.specs.Answers.{Gives, Refuses}
use Rattle.shared_certificates.specs.Reading.{Read, ◌>>=◌, all_of, few_of}
use Rattle.shared_certificates.specs.Views.{bytes_of}

-- what is read so far, and then this
abbrev pub lifted : {A : Type 0} → List A → Read (List A) → Read (List A)
lifted out r = r >>= λ xs. Ok (out ++ xs)

lifted-push : {A : Type 0} (out : List A) (x : A) (r : Read (List A)) → lifted (out ++ x ∷ []) r ≡ lifted out (r >>= λ xs. Ok (x ∷ xs))
lifted-push out x (Ok xs) = ap Ok (append_assoc out (x ∷ []) xs)
lifted-push out x (Err e) = refl

-- the word in front is read, and then the others
abbrev in_front : {A : Type 0} → (List ℕ → Read A) → List (Bor (List ℕ)) → Read A → Read (List A)
in_front f ws r = r >>= λ x. all_of f (map bytes_of ws) >>= λ xs. Ok (x ∷ xs)

all-more : {A : Type 0} (f : List ℕ → Read A) (ws : List (Bor (List ℕ))) (i : ℕ) (w : Bor (List ℕ)) → i < length ws → w ≡ get_or ws i w → all_of f (map bytes_of (drop i ws)) ≡ in_front f (drop (i + 1) ws) (f w.now)
all-more f ws i w h e = ap (λ vs. all_of f (map bytes_of vs)) (drop_more ws i w h) ∙ ap (λ v. in_front f (drop (i + 1) ws) (f (bytes_of v))) (sym e)

pub all-step : {A : Type 0} (f : List ℕ → Read A) (ws : List (Bor (List ℕ))) (out : List A) (i : ℕ) (w : Bor (List ℕ)) (x : A) (whole : Read (List A)) → i < length ws → w ≡ get_or ws i w → f w.now ≡ Ok x
    → lifted out (all_of f (map bytes_of (drop i ws))) ≡ whole → lifted (out ++ x ∷ []) (all_of f (map bytes_of (drop (i + 1) ws))) ≡ whole
all-step f ws out i w x whole h e ok inv =
    lifted-push out x (all_of f (map bytes_of (drop (i + 1) ws)))
    ∙ ap (lifted out) (sym (all-more f ws i w h e ∙ ap (in_front f (drop (i + 1) ws)) ok)) ∙ inv

stopped : {A : Type 0} (f : List ℕ → Read A) (ws : List (Bor (List ℕ))) (out : List A) (i : ℕ) (w : Bor (List ℕ)) (e : Refusal) (whole : Read (List A)) → i < length ws → w ≡ get_or ws i w → f w.now ≡ Err e
    → lifted out (all_of f (map bytes_of (drop i ws))) ≡ whole → whole ≡ Err e
stopped f ws out i w e whole h is bad inv = sym inv ∙ ap (lifted out) (all-more f ws i w h is ∙ ap (in_front f (drop (i + 1) ws)) bad)

pub all-stop : {A : Type 0} (f : List ℕ → Read A) (ws : List (Bor (List ℕ))) (out : List A) (i : ℕ) (w : Bor (List ℕ)) (e : Refusal) (whole : Read (List A)) → i < length ws → w ≡ get_or ws i w → Refuses e (f w.now)
    → lifted out (all_of f (map bytes_of (drop i ws))) ≡ whole → Refuses e whole
all-stop f ws out i w Malformed whole h is bad inv = stopped f ws out i w Malformed whole h is bad inv
all-stop f ws out i w Limit whole h is bad inv = stopped f ws out i w Limit whole h is bad inv
all-stop f ws out i w Memory whole h is bad inv = tt

-- the refusal of a word is the answer
pub all-handed : {A V : Type 0} (view : V → List A) (r : Result V Refusal) (f : List ℕ → Read A) (ws : List (Bor (List ℕ))) (out : List A) (i : ℕ) (w : Bor (List ℕ)) (e : Refusal) (whole : Read (List A)) → i < length ws → w ≡ get_or ws i w
    → IsErrAnd r (λ y. y ≡ e) → Refuses e (f w.now) → lifted out (all_of f (map bytes_of (drop i ws))) ≡ whole → Gives view r whole
all-handed view (Ok x) f ws out i w e whole h is err bad inv = absurd err
all-handed view (Err y) f ws out i w e whole h is err bad inv = subst (λ z. Refuses z whole) (sym err) (all-stop f ws out i w e whole h is bad inv)

pub all-end : {A : Type 0} (f : List ℕ → Read A) (ws : List (Bor (List ℕ))) (out : List A) (i : ℕ) (whole : Read (List A)) → length ws ≤ i → lifted out (all_of f (map bytes_of (drop i ws))) ≡ whole → whole ≡ Ok out
all-end f ws out i whole h inv = sym inv ∙ ap (λ vs. lifted out (all_of f (map bytes_of vs))) (drop_all i ws h) ∙ ap Ok (append-nil out)

-- ---- at most 4,096 words
abbrev if_few : {A : Type 0} → (List ℕ → Read A) → List (Bor (List ℕ)) → Bool → Read (List A)
if_few f ws b = cond b (Err Limit) (all_of f (map bytes_of ws))

pub few-many : {A : Type 0} (f : List ℕ → Read A) (ws : List (Bor (List ℕ))) → nat_lt 4096 (length ws) ≡ true → few_of f (map bytes_of ws) ≡ Err Limit
few-many f ws h = ap (if_few f ws) (ap (nat_lt 4096) (length-map ws bytes_of) ∙ h)

pub few-all : {A : Type 0} (f : List ℕ → Read A) (ws : List (Bor (List ℕ))) → nat_lt 4096 (length ws) ≡ false → few_of f (map bytes_of ws) ≡ all_of f (map bytes_of ws)
few-all f ws h = ap (if_few f ws) (ap (nat_lt 4096) (length-map ws bytes_of) ∙ h)
