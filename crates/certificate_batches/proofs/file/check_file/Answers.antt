use Rattle.std.proofs.Common.{◌≡◌, inl, inr, refl, ap, sym, subst, ◌∙◌, ◌≤◌, length, take, drop, ◌++◌, arith, rules, length-take}
use Rattle.st_outside.specs.Faults.{Rose}
use Rattle.step_report.specs.declared.refusals.FileRole.TheVariants.{Certificates}
use Rattle.step_plan.specs.Outcome.{Outcome, IsDecided}
use Rattle.step_plan.specs.Plan.{Told, Counts}
use Rattle.certificate_batches.specs.Finding.{finding}
use Rattle.certificate_batches.specs.Claims.{setting_of, conditions_of, implications_of}
use Rattle.certificate_batches.specs.Batches.{comes_to}
use Rattle.certificate_batches.proofs.Parts.{so_far_more, answered_here, read_past, buffer_is}
use Rattle.certificate_batches.proofs.file.check_file.Goals as goal

pub returns-in_default-clause-comes : goal.returns-in_default-clause-comes
returns-in_default-clause-comes g c =
    let name = c.args.name.now in
    let rose = subst (λ (f : Counts). Rose (f name) (g.F.Files.faults c.read_at.new.self name)) c.loop-size.invariant.counts c.in_default.ensures.cause in
    inr (record { role = Certificates; name = name; asked = inl (refl, refl); rose = rose; view = c.in_ok-read_fault.ensures })

pub returns-then-count-eq0-clause-comes : goal.returns-then-count-eq0-clause-comes
returns-then-count-eq0-clause-comes g c =
    let name = c.args.name.now in
    let claims = c.args.claims.now in
    let none : c.in-Ok.count ≡ 0 = search rules in
    let here = answered_here (g.F.Files.told c.loop-size.files name) (g.F.Files.told c.args.files.now name) (finding (setting_of claims) (implications_of claims))
    (comes_to (setting_of claims) (conditions_of claims) c.loop-size.batches) c.read_at.new.buf c.loop-size.size c.in-Ok.count c.in_ok-finding.finding
    (ap (λ (t : Told). t name) c.loop-size.invariant.same) none c.loop-size.invariant.so_far c.in-Ok.ensures.bytes c.in_ok-finding.ensures.finding in
    (c.in-Ok.ensures.quiet ∙ c.loop-size.invariant.counts, (here.0, here.1, omega (arith, here.2), here.3))

pub loop-size-preserved : goal.loop-size-preserved
loop-size-preserved g c =
    let name = c.args.name.now in
    let claims = c.args.claims.now in
    let bound = c.in-Ok.ensures.bound in
    let buffer = c.read_at.new.buf in
    let kept : length buffer ≡ length c.loop-size.buf.items = c.read_at.auto.buf ∙ ap length c.deref_mut.ensures.value in
    let same : take c.loop-size.buf.len (buffer ++ drop (length buffer) c.loop-size.buf.items) ≡ buffer = buffer_is buffer c.loop-size.buf.items c.loop-size.buf.len kept c.loop-size.buf.ok.0 in
    let fits : c.in-Ok.count ≤ length buffer = omega (arith, bound, c.read_at.auto.buf) in
    let piece : take c.in-Ok.count c.deref.result.now ≡ take c.in-Ok.count buffer = ap (take c.in-Ok.count) (c.deref.ensures.value ∙ same) in
    record {
      same = c.in-Ok.ensures.same ∙ c.loop-size.invariant.same;
      counts = c.in-Ok.ensures.quiet ∙ c.loop-size.invariant.counts;
      buffer = ap length same ∙ kept ∙ c.loop-size.invariant.buffer;
      within = omega (arith, fits, kept, c.loop-size.invariant.buffer);
      order = c.in_ok-push.ensures.order;
      follower = c.in_ok-push.ensures.follower;
      unfinished = c.in_ok-push.ensures.unfinished;
      reached = omega (arith, c.in_ok-push.ensures.reached, c.loop-size.invariant.reached, ap length piece, length-take c.in-Ok.count c.deref.result.now);
      so_far = so_far_more (g.F.Files.told c.loop-size.files name) (g.F.Files.told c.args.files.now name) (finding (setting_of claims) (implications_of claims))
          (comes_to (setting_of claims) (conditions_of claims) c.loop-size.batches) (comes_to (setting_of claims) (conditions_of claims) c.push.new.self) c.read_at.new.buf _ c.loop-size.size c.in-Ok.count
          (ap (λ (t : Told). t name) c.loop-size.invariant.same) fits c.loop-size.invariant.so_far c.in-Ok.ensures.bytes piece c.in_ok-push.ensures.same;
    }

pub returns-clause-comes : goal.returns-clause-comes
returns-clause-comes g c =
    let name = c.args.name.now in
    let claims = c.args.claims.now in
    let past = read_past (g.F.Files.told c.args.files.now name) (finding (setting_of claims) (implications_of claims)) (comes_to (setting_of claims) (conditions_of claims) c.loop-size.batches)
    c.loop-size.size 268435456 c.loop-size.invariant.so_far (omega arith) in
    inl (record {
      quiet = c.loop-size.invariant.counts;
      decided = subst (λ (o : Outcome). IsDecided o.status) (sym c.in_ok-limited.ensures) tt;
      outcome = inl (past, c.in_ok-limited.ensures);
    })
