use Rattle.std.proofs.Common.{◌≡◌, ℕ, zero, suc, Bool, true, false, Option, Some, None, List, [], ◌∷◌, ◌++◌, map, refl, sym, subst, ◌∙◌, ℤ}
use Rattle.std.specs.Prelude.{if◌then◌else◌}
use Rattle.std.specs.List.{flat_map}
use Rattle.elimination_laws.specs.Mixing.{Tracked}
use Rattle.elimination_laws.specs.Stages.{kept_by, solves, solver, others, Judgement, stays, goes, clashes, judged, Sifted, list, clash, wide, onto, placed, sifted}

abbrev pub AllT : (Tracked → Type 0) → List Tracked → Type 0
AllT P [] = Unit {0}
AllT P (t ∷ ts) = P t × AllT P ts

pub AllT-weaker : (P Q : Tracked → Type 0) → ((t : Tracked) → P t → Q t) → (ts : List Tracked) → AllT P ts → AllT Q ts
AllT-weaker P Q f [] h = tt
AllT-weaker P Q f (t ∷ ts) h = (f t h.0, AllT-weaker P Q f ts h.1)

pub AllT-both : (P Q : Tracked → Type 0) (ts : List Tracked) → AllT P ts → AllT Q ts → AllT (λ t. P t × Q t) ts
AllT-both P Q [] h k = tt
AllT-both P Q (t ∷ ts) h k = ((h.0, k.0), AllT-both P Q ts h.1 k.1)

-- of a line, if it was made; and of a line that was made
abbrev pub IfMade : (Tracked → Type 0) → Option Tracked → Type 0
IfMade P None = Unit {0}
IfMade P (Some t) = P t

abbrev pub IsMade : (Tracked → Type 0) → Option Tracked → Type 0
IsMade P None = ⊥
IsMade P (Some t) = P t

abbrev pub AllIfMade : (Tracked → Type 0) → List (Option Tracked) → Type 0
AllIfMade P [] = Unit {0}
AllIfMade P (m ∷ ms) = IfMade P m × AllIfMade P ms

abbrev pub AllIsMade : (Tracked → Type 0) → List (Option Tracked) → Type 0
AllIsMade P [] = Unit {0}
AllIsMade P (m ∷ ms) = IsMade P m × AllIsMade P ms

pub AllIfMade-append : (P : Tracked → Type 0) (xs ys : List (Option Tracked)) → AllIfMade P xs → AllIfMade P ys → AllIfMade P (xs ++ ys)
AllIfMade-append P [] ys h k = k
AllIfMade-append P (x ∷ xs) ys h k = (h.0, AllIfMade-append P xs ys h.1 k)

pub AllIfMade-map : (P Q : Tracked → Type 0) (f : Tracked → Option Tracked) → ((t : Tracked) → Q t → IfMade P (f t)) → (ts : List Tracked) → AllT Q ts → AllIfMade P (map f ts)
AllIfMade-map P Q f g [] h = tt
AllIfMade-map P Q f g (t ∷ ts) h = (g t h.0, AllIfMade-map P Q f g ts h.1)

pub AllIfMade-pairs : (P Q R : Tracked → Type 0) (f : Tracked → Tracked → Option Tracked) → ((p n : Tracked) → Q p → R n → IfMade P (f p n)) → (ps ns : List Tracked) → AllT Q ps → AllT R ns → AllIfMade P (flat_map (λ p. map (f p) ns) ps)
AllIfMade-pairs P Q R f g [] ns h k = tt
AllIfMade-pairs P Q R f g (p ∷ ps) ns h k = AllIfMade-append P _ _ (AllIfMade-map P R (f p) (λ n. g p n h.0) ns k) (AllIfMade-pairs P Q R f g ps ns h.1 k)

pub AllIsMade-left : (P : Tracked → Type 0) (xs ys : List (Option Tracked)) → AllIsMade P (xs ++ ys) → AllIsMade P xs
AllIsMade-left P [] ys h = tt
AllIsMade-left P (x ∷ xs) ys h = (h.0, AllIsMade-left P xs ys h.1)

pub AllIsMade-right : (P : Tracked → Type 0) (xs ys : List (Option Tracked)) → AllIsMade P (xs ++ ys) → AllIsMade P ys
AllIsMade-right P [] ys h = h
AllIsMade-right P (x ∷ xs) ys h = AllIsMade-right P xs ys h.1

pub AllIsMade-weaker : (P Q : Tracked → Type 0) → ((t : Tracked) → P t → Q t) → (ms : List (Option Tracked)) → AllIsMade P ms → AllIsMade Q ms
AllIsMade-weaker P Q f [] h = tt
AllIsMade-weaker P Q f (None ∷ ms) h = absurd h.0
AllIsMade-weaker P Q f (Some t ∷ ms) h = (f t h.0, AllIsMade-weaker P Q f ms h.1)

-- the lines for which a test holds
kept-cons : (P : Tracked → Type 0) (test : Tracked → Bool) (t : Tracked) (ts : List Tracked) (b : Bool) → test t ≡ b → P t → AllT (λ t. P t × (test t ≡ true)) ts → AllT (λ t. P t × (test t ≡ true)) (if b then t ∷ ts else ts)
kept-cons P test t ts true e h k = ((h, e), k)
kept-cons P test t ts false e h k = k

pub AllT-kept : (P : Tracked → Type 0) (test : Tracked → Bool) (ts : List Tracked) → AllT P ts → AllT (λ t. P t × (test t ≡ true)) (kept_by test ts)
AllT-kept P test [] h = tt
AllT-kept P test (t ∷ ts) h = kept-cons P test t (kept_by test ts) (test t) refl h.0 (AllT-kept P test ts h.1)

others-cons : (P : Tracked → Type 0) (t : Tracked) (ts rest : List Tracked) (b : Bool) → P t → AllT P ts → AllT P rest → AllT P (if b then ts else t ∷ rest)
others-cons P t ts rest true h k l = k
others-cons P t ts rest false h k l = (h, l)

pub AllT-others : (P : Tracked → Type 0) (v : ℕ) (ts : List Tracked) → AllT P ts → AllT P (others v ts)
AllT-others P v [] h = tt
AllT-others P v (t ∷ ts) h = others-cons P t ts (others v ts) (solves v t) h.0 h.1 (AllT-others P v ts h.1)

solver-cons : (P : Tracked → Type 0) (v : ℕ) (t e : Tracked) (rest : Option Tracked) (b : Bool) → solves v t ≡ b → P t → (rest ≡ Some e → P e × (solves v e ≡ true)) → (if b then Some t else rest) ≡ Some e → P e × (solves v e ≡ true)
solver-cons P v t e rest true i h k l = let s : t ≡ e = cc in subst (λ e. P e × (solves v e ≡ true)) s (h, i)
solver-cons P v t e rest false i h k l = k l

pub solver-is : (P : Tracked → Type 0) (v : ℕ) (ts : List Tracked) (e : Tracked) → AllT P ts → solver v ts ≡ Some e → P e × (solves v e ≡ true)
solver-is P v [] e h l = absurd (cc)
solver-is P v (t ∷ ts) e h l = solver-cons P v t e (solver v ts) (solves v t) refl h.0 (solver-is P v ts e h.1) l

none-cons : (v : ℕ) (t : Tracked) (rest : Option Tracked) (b : Bool) → solves v t ≡ b → (if b then Some t else rest) ≡ None → (solves v t ≡ false) × (rest ≡ None)
none-cons v t rest true i l = absurd (cc)
none-cons v t rest false i l = (i, l)

pub solver-none : (v : ℕ) (ts : List Tracked) → solver v ts ≡ None → AllT (λ t. solves v t ≡ false) ts
solver-none v [] l = tt
solver-none v (t ∷ ts) l = let h = none-cons v t (solver v ts) (solves v t) refl l in (h.0, solver-none v ts h.1)

-- what all but the first solver meet, and that one too, all meet
restore-cons : (P : Tracked → Type 0) (v : ℕ) (t e : Tracked) (ts rest : List Tracked) (left : Option Tracked) (b : Bool) → (if b then Some t else left) ≡ Some e → AllT P (if b then ts else t ∷ rest) → P e → (left ≡ Some e → AllT P rest → AllT P ts) → P t × AllT P ts
restore-cons P v t e ts rest left true l h k m = let s : e ≡ t = cc in (subst P s k, h)
restore-cons P v t e ts rest left false l h k m = (h.0, m l h.1)

pub AllT-restore : (P : Tracked → Type 0) (v : ℕ) (ts : List Tracked) (e : Tracked) → solver v ts ≡ Some e → AllT P (others v ts) → P e → AllT P ts
AllT-restore P v [] e l h k = tt
AllT-restore P v (t ∷ ts) e l h k = restore-cons P v t e ts (others v ts) (solver v ts) (solves v t) l h k (λ i j. AllT-restore P v ts e i j k)

-- what becomes of a list
onto-list : (t : Tracked) (s : Sifted) (new : List Tracked) → onto t s ≡ list new → (ts : List Tracked) × (s ≡ list ts) × (new ≡ t ∷ ts)
onto-list t (list ts) new h = (ts, refl, cc)
onto-list t (clash ps) new h = absurd (cc)
onto-list t wide new h = absurd (cc)

onto-clash : (t : Tracked) (s : Sifted) (ps : List (ℕ × ℤ)) → onto t s ≡ clash ps → s ≡ clash ps
onto-clash t (list ts) ps h = absurd (cc)
onto-clash t (clash qs) ps h = cc
onto-clash t wide ps h = absurd (cc)

abbrev pub Stays : (Tracked → Type 0) → Tracked → Type 0
Stays P t = P t × (judged t ≡ stays)

placed-keeps : (P : Tracked → Type 0) (j : Judgement) (t : Tracked) (room : ℕ) (rest : ℕ → Sifted) (new : List Tracked) → judged t ≡ j → P t → ((room : ℕ) (ts : List Tracked) → rest room ≡ list ts → AllT (Stays P) ts) → placed j t room rest ≡ list new → AllT (Stays P) new
placed-keeps P stays t zero rest new i h k l = absurd (cc)
placed-keeps P stays t (suc room) rest new i h k l =
    let o = onto-list t (rest room) new l in
    subst (AllT (Stays P)) (sym o.2) ((h, i), k room o.0 o.1)
placed-keeps P goes t room rest new i h k l = k room new l
placed-keeps P (clashes ps) t room rest new i h k l = absurd (cc)

-- what each line that is made meets, each line of the new list meets; and it stays
pub sifted-keeps : (P : Tracked → Type 0) (ms : List (Option Tracked)) → AllIfMade P ms → (room : ℕ) (new : List Tracked) → sifted ms room ≡ list new → AllT (Stays P) new
sifted-keeps P [] h room new l = let e : new ≡ [] = cc in subst (AllT (Stays P)) (sym e) tt
sifted-keeps P (None ∷ ms) h room new l = absurd (cc)
sifted-keeps P (Some t ∷ ms) h room new l = placed-keeps P (judged t) t room (sifted ms) new refl h.0 (sifted-keeps P ms h.1) l

abbrev pub Clash : (Tracked → Type 0) → List (ℕ × ℤ) → Type 0
Clash P ps = (t : Tracked) × P t × (judged t ≡ clashes ps)

placed-clash : (P : Tracked → Type 0) (j : Judgement) (t : Tracked) (room : ℕ) (rest : ℕ → Sifted) (ps : List (ℕ × ℤ)) → judged t ≡ j → P t → ((room : ℕ) → rest room ≡ clash ps → Clash P ps) → placed j t room rest ≡ clash ps → Clash P ps
placed-clash P stays t zero rest ps i h k l = absurd (cc)
placed-clash P stays t (suc room) rest ps i h k l = k room (onto-clash t (rest room) ps l)
placed-clash P goes t room rest ps i h k l = k room l
placed-clash P (clashes qs) t room rest ps i h k l = let e : clashes qs ≡ clashes ps = cc in (t, h, i ∙ e)

pub sifted-clash : (P : Tracked → Type 0) (ms : List (Option Tracked)) → AllIfMade P ms → (room : ℕ) (ps : List (ℕ × ℤ)) → sifted ms room ≡ clash ps → Clash P ps
sifted-clash P [] h room ps l = absurd (cc)
sifted-clash P (None ∷ ms) h room ps l = absurd (cc)
sifted-clash P (Some t ∷ ms) h room ps l = placed-clash P (judged t) t room (sifted ms) ps refl h.0 (λ r k. sifted-clash P ms h.1 r ps k) l

placed-restores : (P : Tracked → Type 0) (j : Judgement) (t : Tracked) (room : ℕ) (rest : ℕ → Sifted) (ms : List (Option Tracked)) (new : List Tracked) → judged t ≡ j → ((t : Tracked) → judged t ≡ goes → P t) → ((room : ℕ) (ts : List Tracked) → rest room ≡ list ts → AllT P ts → AllIsMade P ms) → placed j t room rest ≡ list new → AllT P new → P t × AllIsMade P ms
placed-restores P stays t zero rest ms new i g k l h = absurd (cc)
placed-restores P stays t (suc room) rest ms new i g k l h =
    let o = onto-list t (rest room) new l in
    let a = subst (AllT P) o.2 h in
    (a.0, k room o.0 o.1 a.1)
placed-restores P goes t room rest ms new i g k l h = (g t i, k room new l h)
placed-restores P (clashes ps) t room rest ms new i g k l h = absurd (cc)

-- what each line of the new list meets, and each that goes, each line that was made meets
pub sifted-restores : (P : Tracked → Type 0) → ((t : Tracked) → judged t ≡ goes → P t) → (ms : List (Option Tracked)) (room : ℕ) (new : List Tracked) → sifted ms room ≡ list new → AllT P new → AllIsMade P ms
sifted-restores P g [] room new l h = tt
sifted-restores P g (None ∷ ms) room new l h = absurd (cc)
sifted-restores P g (Some t ∷ ms) room new l h = placed-restores P (judged t) t room (sifted ms) ms new refl g (sifted-restores P g ms) l h
