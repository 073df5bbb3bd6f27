-- What a token says: which claim, which rule of a response, and which diagram.
use Rattle.std.proofs.Common.{◌≡◌, true, cond, Option, Some, None, refl}
use Rattle.st_reading.specs.declared.mark.Mark.{Mark}
use Rattle.st_reading.specs.declared.mark.Mark.TheVariants as marks
use Rattle.st_reading.specs.declared.sign.Sign.{Sign}
use Rattle.st_reading.specs.Mark.{number}
use Rattle.st_reading.specs.Sign.{is}
use Rattle.st_reading.proofs.Choices.{first_of, none_chosen}
use Rattle.st_reading.proofs.Tokens.{at_mark}
use Rattle.temporal_goals.specs.declared.diagrams.DiagramKind.{DiagramKind}
use Rattle.temporal_goals.specs.declared.diagrams.DiagramKind.TheVariants as kinds
use Rattle.proof_script.specs.Rules.{kind_in, manner_in}
use Rattle.proof_script.specs.Steps.{claim_in}
use Rattle.proof_script.specs.declared.rules.Manner.{Manner}
use Rattle.proof_script.specs.declared.rules.Manner.TheVariants as manners
use Rattle.proof_script.specs.declared.steps.Claim.{Claim}
use Rattle.proof_script.specs.declared.steps.Claim.TheVariants as claims

abbrev pub manner_mark : Manner → Mark
manner_mark manners.Just = marks.Just
manner_mark manners.Chain = marks.Chain
manner_mark manners.Ranked = marks.Ranked
manner_mark manners.Fair = marks.Fair
manner_mark manners.Net = marks.Net
manner_mark manners.Diagram = marks.Diagram

abbrev pub Says : Sign → Manner → Type 0
Says g m = is g (manner_mark m) ≡ true

abbrev pub ifs : Sign → Mark → Manner → Option Manner → Option Manner
ifs g m x others = cond (is g m) (Some x) others

abbrev pub from_diagram : Sign → Option Manner
from_diagram g = ifs g marks.Diagram manners.Diagram None

abbrev pub from_net : Sign → Option Manner
from_net g = ifs g marks.Net manners.Net (from_diagram g)

abbrev pub from_fair : Sign → Option Manner
from_fair g = ifs g marks.Fair manners.Fair (from_net g)

abbrev pub from_ranked : Sign → Option Manner
from_ranked g = ifs g marks.Ranked manners.Ranked (from_fair g)

abbrev pub from_chain : Sign → Option Manner
from_chain g = ifs g marks.Chain manners.Chain (from_ranked g)

pub manner_is : (g : Sign) (m : Manner) → manner_in g ≡ Some m → Says g m
manner_is g m h =
    first_of (Says g) (is g marks.Just) manners.Just m (from_chain g) (λ e. e)
    (λ h. first_of (Says g) (is g marks.Chain) manners.Chain m (from_ranked g) (λ e. e)
    (λ h. first_of (Says g) (is g marks.Ranked) manners.Ranked m (from_fair g) (λ e. e)
    (λ h. first_of (Says g) (is g marks.Fair) manners.Fair m (from_net g) (λ e. e)
    (λ h. first_of (Says g) (is g marks.Net) manners.Net m (from_diagram g) (λ e. e)
    (λ h. first_of (Says g) (is g marks.Diagram) manners.Diagram m None (λ e. e) (λ h. none_chosen (Says g m) m h) h) h) h) h) h) h

pub manner_found : (g : Sign) (m : Manner) → Says g m → manner_in g ≡ Some m
unfolding number
manner_found g manners.Just h = at_mark manner_in (Some manners.Just) marks.Just refl g h
manner_found g manners.Chain h = at_mark manner_in (Some manners.Chain) marks.Chain refl g h
manner_found g manners.Ranked h = at_mark manner_in (Some manners.Ranked) marks.Ranked refl g h
manner_found g manners.Fair h = at_mark manner_in (Some manners.Fair) marks.Fair refl g h
manner_found g manners.Net h = at_mark manner_in (Some manners.Net) marks.Net refl g h
manner_found g manners.Diagram h = at_mark manner_in (Some manners.Diagram) marks.Diagram refl g h

abbrev pub Draws : Sign → DiagramKind → Type 0
Draws g kinds.Wait = ⊥
Draws g kinds.Chain = is g marks.Chain ≡ true
Draws g kinds.Rank = is g marks.Rank ≡ true

pub kind_is : (g : Sign) (k : DiagramKind) → kind_in g ≡ Some k → Draws g k
kind_is g k h =
    first_of (Draws g) (is g marks.Chain) kinds.Chain k (cond (is g marks.Rank) (Some kinds.Rank) None) (λ e. e)
    (λ h. first_of (Draws g) (is g marks.Rank) kinds.Rank k None (λ e. e) (λ h. none_chosen (Draws g k) k h) h) h

pub kind_found : (g : Sign) (k : DiagramKind) → Draws g k → kind_in g ≡ Some k
unfolding number
kind_found g kinds.Wait h = absurd h
kind_found g kinds.Chain h = at_mark kind_in (Some kinds.Chain) marks.Chain refl g h
kind_found g kinds.Rank h = at_mark kind_in (Some kinds.Rank) marks.Rank refl g h

abbrev pub claim_mark : Claim → Mark
claim_mark claims.Invariant = marks.Invariant
claim_mark claims.Waiting = marks.Waiting
claim_mark claims.Response = marks.Response

abbrev pub Claims : Sign → Claim → Type 0
Claims g c = is g (claim_mark c) ≡ true

pub claim_is : (g : Sign) (c : Claim) → claim_in g ≡ Some c → Claims g c
claim_is g c h =
    first_of (Claims g) (is g marks.Invariant) claims.Invariant c (cond (is g marks.Waiting) (Some claims.Waiting) (cond (is g marks.Response) (Some claims.Response) None)) (λ e. e)
    (λ h. first_of (Claims g) (is g marks.Waiting) claims.Waiting c (cond (is g marks.Response) (Some claims.Response) None) (λ e. e)
    (λ h. first_of (Claims g) (is g marks.Response) claims.Response c None (λ e. e) (λ h. none_chosen (Claims g c) c h) h) h) h

pub claim_found : (g : Sign) (c : Claim) → Claims g c → claim_in g ≡ Some c
unfolding number
claim_found g claims.Invariant h = at_mark claim_in (Some claims.Invariant) marks.Invariant refl g h
claim_found g claims.Waiting h = at_mark claim_in (Some claims.Waiting) marks.Waiting refl g h
claim_found g claims.Response h = at_mark claim_in (Some claims.Response) marks.Response refl g h
