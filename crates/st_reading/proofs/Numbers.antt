-- A mark is told by its number.
use Rattle.std.proofs.Common.{◌≡◌, ℕ, zero, suc, true, List, [], ◌∷◌, refl, sym, ap, ◌∙◌, arith}
use Rattle.std.proofs.lemmas.Bool.Decides.{nat_tests}
use Rattle.st_reading.specs.declared.mark.Mark.{Mark}
use Rattle.st_reading.specs.declared.mark.Mark.TheVariants as marks
use Rattle.st_reading.specs.declared.sign.Sign.{Sign}
use Rattle.st_reading.specs.declared.sign.Sign.TheVariants as signs
use Rattle.st_reading.specs.Mark.{number, same}
use Rattle.st_reading.specs.Sign.{is}

-- all marks, in the order of their numbers
all_marks : List Mark
all_marks = marks.Open ∷ marks.Close ∷ marks.OpenBlock ∷ marks.CloseBlock ∷ marks.OpenBrace ∷ marks.CloseBrace ∷ marks.OpenGroup ∷ marks.CloseGroup ∷ marks.Colon ∷ marks.Colons ∷ marks.Semicolon ∷ marks.Comma ∷ marks.Dot ∷ marks.Becomes ∷ marks.Bars ∷ marks.And ∷ marks.Or ∷ marks.Not ∷ marks.Implies ∷ marks.Unless ∷ marks.Equal ∷ marks.Unequal ∷ marks.Less ∷ marks.AtMost ∷ marks.Greater ∷ marks.AtLeast ∷ marks.Plus ∷ marks.Minus ∷ marks.Times ∷ marks.In ∷ marks.Local ∷ marks.Out ∷ marks.Where ∷ marks.Integer ∷ marks.Boolean ∷ marks.Skip ∷ marks.Await ∷ marks.Request ∷ marks.Release ∷ marks.Noncritical ∷ marks.Critical ∷ marks.If ∷ marks.Then ∷ marks.Else ∷ marks.Fi ∷ marks.While ∷ marks.Loop ∷ marks.Forever ∷ marks.Do ∷ marks.Select ∷ marks.Either ∷ marks.Cobegin ∷ marks.Coend ∷ marks.True ∷ marks.False ∷ marks.At ∷ marks.Invariant ∷ marks.Waiting ∷ marks.Wait ∷ marks.Response ∷ marks.Leads ∷ marks.Within ∷ marks.By ∷ marks.Using ∷ marks.Just ∷ marks.Chain ∷ marks.Ranked ∷ marks.Fair ∷ marks.Net ∷ marks.Base ∷ marks.Delay ∷ marks.Top ∷ marks.Group ∷ marks.Helper ∷ marks.Rank ∷ marks.Diagram ∷ marks.Terminal ∷ marks.Node ∷ marks.Edge ∷ marks.On ∷ []

nth : ℕ → List Mark → Mark
nth k [] = marks.Open
nth zero (m ∷ ms) = m
nth (suc k) (m ∷ ms) = nth k ms

nth_number : (m : Mark) → nth (number m) all_marks ≡ m
unfolding nth all_marks number
nth_number marks.Open = refl
nth_number marks.Close = refl
nth_number marks.OpenBlock = refl
nth_number marks.CloseBlock = refl
nth_number marks.OpenBrace = refl
nth_number marks.CloseBrace = refl
nth_number marks.OpenGroup = refl
nth_number marks.CloseGroup = refl
nth_number marks.Colon = refl
nth_number marks.Colons = refl
nth_number marks.Semicolon = refl
nth_number marks.Comma = refl
nth_number marks.Dot = refl
nth_number marks.Becomes = refl
nth_number marks.Bars = refl
nth_number marks.And = refl
nth_number marks.Or = refl
nth_number marks.Not = refl
nth_number marks.Implies = refl
nth_number marks.Unless = refl
nth_number marks.Equal = refl
nth_number marks.Unequal = refl
nth_number marks.Less = refl
nth_number marks.AtMost = refl
nth_number marks.Greater = refl
nth_number marks.AtLeast = refl
nth_number marks.Plus = refl
nth_number marks.Minus = refl
nth_number marks.Times = refl
nth_number marks.In = refl
nth_number marks.Local = refl
nth_number marks.Out = refl
nth_number marks.Where = refl
nth_number marks.Integer = refl
nth_number marks.Boolean = refl
nth_number marks.Skip = refl
nth_number marks.Await = refl
nth_number marks.Request = refl
nth_number marks.Release = refl
nth_number marks.Noncritical = refl
nth_number marks.Critical = refl
nth_number marks.If = refl
nth_number marks.Then = refl
nth_number marks.Else = refl
nth_number marks.Fi = refl
nth_number marks.While = refl
nth_number marks.Loop = refl
nth_number marks.Forever = refl
nth_number marks.Do = refl
nth_number marks.Select = refl
nth_number marks.Either = refl
nth_number marks.Cobegin = refl
nth_number marks.Coend = refl
nth_number marks.True = refl
nth_number marks.False = refl
nth_number marks.At = refl
nth_number marks.Invariant = refl
nth_number marks.Waiting = refl
nth_number marks.Wait = refl
nth_number marks.Response = refl
nth_number marks.Leads = refl
nth_number marks.Within = refl
nth_number marks.By = refl
nth_number marks.Using = refl
nth_number marks.Just = refl
nth_number marks.Chain = refl
nth_number marks.Ranked = refl
nth_number marks.Fair = refl
nth_number marks.Net = refl
nth_number marks.Base = refl
nth_number marks.Delay = refl
nth_number marks.Top = refl
nth_number marks.Group = refl
nth_number marks.Helper = refl
nth_number marks.Rank = refl
nth_number marks.Diagram = refl
nth_number marks.Terminal = refl
nth_number marks.Node = refl
nth_number marks.Edge = refl
nth_number marks.On = refl

pub same_is : (m k : Mark) → same m k ≡ true → m ≡ k
same_is m k h =
    let e : number m ≡ number k = grind (arith, nat_tests) in
    sym (nth_number m) ∙ ap (λ n. nth n all_marks) e ∙ nth_number k

pub same_self : (m : Mark) → same m m ≡ true
same_self m = grind (arith, nat_tests)

-- the token that a mark is
pub is_marked : (g : Sign) (m : Mark) → is g m ≡ true → g ≡ signs.Marked m
is_marked signs.Name m h = cc
is_marked (signs.Numeral n) m h = cc
is_marked signs.Other m h = cc
is_marked signs.Nothing m h = cc
is_marked (signs.Marked k) m h = ap signs.Marked (same_is k m h)
