use Rattle.std.proofs.Common.{rules, ◌≡◌, drop, arith, length-drop}
use Rattle.cert_text.specs.Reading.{progress_view, after, start}
use Rattle.cert_text.proofs.Within.{ends_within}
use Rattle.cert_text.proofs.reader.CertReader.next_block.Goals as goal

pub overflow_sub-self : goal.overflow_sub-self
overflow_sub-self c =
    let i = c.self.inside in
    let e : progress_view c.read_on.new.progress ≡ after i.place (start i.number i.second) (drop i.taken i.bytes.items) = search rules in
    (ends_within i.place c.in-Whole.end i.number i.taken i.second i.bytes.items c.read_on.new.progress e c.in-Whole.is).0

pub overflow_add-self : goal.overflow_add-self
overflow_add-self c =
    let i = c.self.inside in
    let e : progress_view c.read_on.new.progress ≡ after i.place (start i.number i.second) (drop i.taken i.bytes.items) = search rules in
    let w = ends_within i.place c.in-Whole.end i.number i.taken i.second i.bytes.items c.read_on.new.progress e c.in-Whole.is in
    omega (arith, w.0, w.1, length-drop i.taken i.bytes.items)

pub invariant_of-self-in-Whole : goal.invariant_of-self-in-Whole
invariant_of-self-in-Whole c =
    let i = c.self.inside in
    let e : progress_view c.read_on.new.progress ≡ after i.place (start i.number i.second) (drop i.taken i.bytes.items) = search rules in
    let w = ends_within i.place c.in-Whole.end i.number i.taken i.second i.bytes.items c.read_on.new.progress e c.in-Whole.is in
    record {
      in_order = omega arith;
      within = omega (arith, w.0, w.1, length-drop i.taken i.bytes.items);
      room = omega (arith, w.0, w.1, length-drop i.taken i.bytes.items);
      follows = search rules;
    }
