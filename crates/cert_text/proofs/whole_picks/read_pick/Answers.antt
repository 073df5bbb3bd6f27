use Rattle.std.proofs.Common.{rules, ◌≡◌, ◌+◌, ap, sym, ◌∙◌, drop}
use Rattle.cert_text.specs.declared.scan.Want.TheVariants as wants
use Rattle.cert_text.specs.declared.scan.Action.TheVariants as actions
use Rattle.cert_text.specs.Run.{want_behind}
use Rattle.cert_text.specs.Control.{picks_closed}
use Rattle.cert_text.specs.Tree.{Built, built_view, applied}
use Rattle.cert_text.specs.Reading.{progress_view, going, idle, after}
use Rattle.cert_text.proofs.PickRuns.{pick_leads, comma_leads, closing_leads}
use Rattle.cert_text.proofs.Standing.{stands_idle}
use Rattle.cert_text.proofs.whole_picks.read_pick.Goals as goal

pub returns-in-44-clause-leads : goal.returns-in-44-clause-leads
returns-in-44-clause-leads c at =
    let p = c.args.progress.now in
    let bs = c.args.bytes.now in
    let old : progress_view p ≡ going p.scan (built_view p.building) idle = stands_idle p c.requires.idle c.requires.going in
    let added : Built = applied (actions.Pick c.args.signed c.args.pick.row c.args.pick.negative c.args.pick.size) (built_view p.building) in
    let new : progress_view c.go_on.new.progress ≡ going (record p.scan { want = wants.Row c.args.signed (c.args.count + 1) }) added idle = search rules in
    ap (λ s. after (at + (c.args.pick.end + 1)) s (drop (c.args.pick.end + 1) bs)) new
    ∙ comma_leads at c.args.signed c.args.count p.scan (built_view p.building) bs c.args.pick c.requires.few c.requires.pick c.requires.row (search rules)
    ∙ ap (λ s. after at s bs) (sym old)

pub returns-in_ok-add_picks-in-93-clause-leads : goal.returns-in_ok-add_picks-in-93-clause-leads
returns-in_ok-add_picks-in-93-clause-leads c at =
    let p = c.args.progress.now in
    let bs = c.args.bytes.now in
    let old : progress_view p ≡ going p.scan (built_view p.building) idle = stands_idle p c.requires.idle c.requires.going in
    let added : Built = applied (actions.Pick c.args.signed c.args.pick.row c.args.pick.negative c.args.pick.size) (built_view p.building) in
    let new : progress_view c.go_behind.new.progress ≡ going (record p.scan { want = want_behind p.scan.depth }) (applied (picks_closed c.args.signed) added) idle = search rules in
    ap (λ s. after (at + (c.args.pick.end + 1)) s (drop (c.args.pick.end + 1) bs)) new
    ∙ closing_leads at c.args.signed c.args.count p.scan (built_view p.building) bs c.args.pick c.requires.few c.requires.pick c.requires.row (search rules)
    ∙ ap (λ s. after at s bs) (sym old)

pub returns-in_default-clause-leads : goal.returns-in_default-clause-leads
returns-in_default-clause-leads c at =
    let p = c.args.progress.now in
    let bs = c.args.bytes.now in
    let old : progress_view p ≡ going p.scan (built_view p.building) idle = stands_idle p c.requires.idle c.requires.going in
    let added : Built = applied (actions.Pick c.args.signed c.args.pick.row c.args.pick.negative c.args.pick.size) (built_view p.building) in
    let new : progress_view c.go_on-in_default.new.progress ≡ going (record p.scan { want = wants.MorePicks c.args.signed (c.args.count + 1) }) added idle = search rules in
    ap (λ s. after (at + c.args.pick.end) s (drop c.args.pick.end bs)) new
    ∙ pick_leads at c.args.signed c.args.count p.scan (built_view p.building) bs c.args.pick c.requires.few c.requires.pick c.requires.row
    ∙ ap (λ s. after at s bs) (sym old)
