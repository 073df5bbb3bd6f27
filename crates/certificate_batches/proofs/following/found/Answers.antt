use Rattle.std.proofs.Common.{◌<◌, ◌^◌, length, get_or, arith}
use Rattle.std.proofs.lemmas.Option.{slice_get-get_or}
use Rattle.std.proofs.lemmas.Result.{IfOk-weaker}
use Rattle.discharge.proofs.Marking.{searchable_at}
use Rattle.certificate_batches.specs.Claims.{setting_of}
use Rattle.certificate_batches.proofs.Found.{found_proof}
use Rattle.certificate_batches.proofs.following.found.Goals as goal

pub find-requires-clause-given : goal.find-requires-clause-given
find-requires-clause-given c =
    let claims = c.args.claims.now in
    let cs = claims.conditions.now in
    let condition = get_or cs c.args.place c.index-claims-place.result in
    (searchable_at (length claims.variables.now) cs c.args.place condition c.requires.may.searchable (slice_get-get_or cs c.args.place c.index-claims-place.result c.requires.place)).given

pub find-requires-clause-shown : goal.find-requires-clause-shown
find-requires-clause-shown c =
    let claims = c.args.claims.now in
    let cs = claims.conditions.now in
    let condition = get_or cs c.args.place c.index-claims-place.result in
    (searchable_at (length claims.variables.now) cs c.args.place condition c.requires.may.searchable (slice_get-get_or cs c.args.place c.index-claims-place.result c.requires.place)).shown

pub returns-clause-found : goal.returns-clause-found
returns-clause-found c =
    let claims = c.args.claims.now in
    let cs = claims.conditions.now in
    let place = c.args.place in
    let condition = get_or cs place c.index-claims-place.result in
    let at = slice_get-get_or cs place c.index-claims-place.result c.requires.place in
    let it = searchable_at (length claims.variables.now) cs place condition c.requires.may.searchable at in
    let few : length claims.variables.now < 2 ^ 32 = omega (arith, c.requires.may.few_variables) in
    IfOk-weaker c.find.result _ _
    (λ o h. found_proof c.certificates_are_valid.ensures c.found_are_written.ensures (setting_of claims) c.requires.may.ordered c.look_at_components.ensures few cs place condition c.find.new.book o at it
    c.look_at_condition.ensures.given c.look_at_condition.ensures.shown h) c.find.ensures.found
