use Rattle.std.proofs.Common.{map, ap, ◌∙◌}
use Rattle.st_certificate.specs.Plain.{plain}
use Rattle.shared_certificates.specs.Nodes.{table_view}
use Rattle.certificate_versions.specs.Versions.{whole}
use Rattle.certificate_versions.proofs.Reading.{shares}
use Rattle.certificate_versions.proofs.sharing.shared_text.Goals as goal

pub returns-in-Ok : goal.returns-in-Ok
returns-in-Ok c =
    shares (whole c.args.text.now) _ (table_view c.in-Ok.table) c.in_ok-write-in-Ok.field-0 c.in_ok-certificates.ensures (c.in-Ok.ensures ∙ ap (map plain) c.as_slice.ensures.value) c.in_ok-write-in-Ok.ensures
