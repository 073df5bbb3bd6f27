use Rattle.std.proofs.Common.{List, map, sym, subst}
use Rattle.discharge.specs.declared.marks.Undecided.{Undecided}
use Rattle.discharge.specs.Marked.{place_of}
use Rattle.unclosed_conditions.specs.Unclosed.{LeavesOut}
use Rattle.explanations.specs.Explained.{AllStand, open_places, setting_of}
use Rattle.explanations.proofs.Counted.{explained}
use Rattle.explanations.proofs.Standing.{open_stand}
use Rattle.explanations.proofs.explaining.decided.Goals as goal

pub reported-requires : goal.reported-requires
reported-requires g c =
    let x = c.args.posed.now.source in
    let p = c.args.posed.now.proof in
    let stand = open_stand x p (setting_of x) c.in_ok-left.left.items c.requires.by.made c.in_ok-left.ensures.right in
    record { translated = c.requires.of.made; stand = subst (AllStand p) (sym c.deref.ensures.value) stand }

pub returns : goal.returns
returns g c =
    let x = c.args.posed.now.source in
    let p = c.args.posed.now.proof in
    let k = setting_of x in
    let cs = p.conditions.items in
    let left = subst (λ (us : List Undecided). LeavesOut k cs (open_places x p) (map place_of us)) (sym c.deref.ensures.value) c.in_ok-left.ensures.left in
    explained c.args.texts.now.program.now c.args.texts.now.proof.now x p c.args.limit c.requires.of c.requires.by c.deref.result.now left
    c.reported.result c.reported.ensures.steps c.reported.ensures.conditions c.reported.ensures.numbers c.reported.ensures.failing c.reported.ensures.first
