use Rattle.std.proofs.Common.{ap, Some, sym, ◌∙◌, refl}
use Rattle.st_form.specs.Plain.{plain}
use Rattle.st_form.specs.Simple.{tabled}
use Rattle.farkas_check.proofs.Bounds.{modest-settled}
use Rattle.linear_prover.proofs.Lending.{kept, each-end}
use Rattle.linear_prover.proofs.decisions.with_conjunct.Goals as goal

pub simplified-requires : goal.simplified-requires
simplified-requires c = modest-settled (plain c.args.f.now) c.requires.settled

pub returns : goal.returns
returns c =
    rw (c.in_ok-push.ensures.items, kept (tabled c.args.truths.now c.args.places.now) (plain c.args.f.now) c.requires.steady (sym c.touches.ensures ∙ c.if-touches.false))
    (ap (λ x. Some x) (each-end c.args.out.items _ (plain c.args.f.now) refl))
