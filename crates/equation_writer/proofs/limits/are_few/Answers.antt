use Rattle.std.proofs.Common.{◌≡◌, length, ap, ◌∙◌, arith}
use Rattle.equation_forms.specs.Formulas.{classes}
use Rattle.equation_writer.specs.Sizes.{classes_atoms}
use Rattle.equation_writer.proofs.Limiting.{many-classes, many-cases, many-atoms, cases-now, atoms-now}
use Rattle.equation_writer.proofs.limits.are_few.Goals as goal

pub returns-then-len : goal.returns-then-len
returns-then-len c =
    let v = c.index-groups-left.result in
    let size : length c.in_ok-classes.classes.items ≡ length (classes v.items) = ap length (c.in_ok-classes.ensures ∙ ap classes c.as_slice-terms.ensures.value) in
    many-classes c.args.groups.now c.loop-left.left v c.loop-left-test.true c.loop-left.invariant.within c.index-groups-left.is (omega (arith, size, c.in_ok-classes.classes.ok.0, c.len.ensures, c.if-len.true))

pub returns-then-cases-gt-CASES : goal.returns-then-cases-gt-CASES
returns-then-cases-gt-CASES c =
    let v = c.index-groups-left.result in
    let inv = c.loop-left.invariant in
    let are = c.in_ok-classes.ensures ∙ ap classes c.as_slice-terms.ensures.value in
    let size : length c.in_ok-classes.classes.items ≡ length (classes v.items) = ap length are in
    let sum : c.classes_atoms.result ≡ classes_atoms v.items (classes v.items) =
    c.classes_atoms.ensures.value ∙ ap (λ ks. classes_atoms c.as_slice-terms.result.now ks) (c.deref.ensures.value ∙ are) ∙ ap (λ ts. classes_atoms ts (classes v.items)) c.as_slice-terms.ensures.value in
    many-cases c.args.groups.now c.loop-left.left v c.loop-left-test.true inv.within c.index-groups-left.is c.loop-left.cases c.loop-left.atoms c.len-count.result c.classes_atoms.result inv.cases_are inv.atoms_are
    (omega (arith, size, c.in_ok-classes.classes.ok.0, c.len-count.ensures)) sum c.if-cases-gt-CASES.true

pub returns-then-atoms-gt-ATOMS : goal.returns-then-atoms-gt-ATOMS
returns-then-atoms-gt-ATOMS c =
    let v = c.index-groups-left.result in
    let inv = c.loop-left.invariant in
    let are = c.in_ok-classes.ensures ∙ ap classes c.as_slice-terms.ensures.value in
    let size : length c.in_ok-classes.classes.items ≡ length (classes v.items) = ap length are in
    let sum : c.classes_atoms.result ≡ classes_atoms v.items (classes v.items) =
    c.classes_atoms.ensures.value ∙ ap (λ ks. classes_atoms c.as_slice-terms.result.now ks) (c.deref.ensures.value ∙ are) ∙ ap (λ ts. classes_atoms ts (classes v.items)) c.as_slice-terms.ensures.value in
    many-atoms c.args.groups.now c.loop-left.left v c.loop-left-test.true inv.within c.index-groups-left.is c.loop-left.cases c.loop-left.atoms c.len-count.result c.classes_atoms.result inv.cases_are inv.atoms_are
    (omega (arith, size, c.in_ok-classes.classes.ok.0, c.len-count.ensures)) sum c.if-atoms-gt-ATOMS.true

pub loop-left-preserved : goal.loop-left-preserved
loop-left-preserved c =
    let v = c.index-groups-left.result in
    let inv = c.loop-left.invariant in
    let are = c.in_ok-classes.ensures ∙ ap classes c.as_slice-terms.ensures.value in
    let size : length c.in_ok-classes.classes.items ≡ length (classes v.items) = ap length are in
    let sum : c.classes_atoms.result ≡ classes_atoms v.items (classes v.items) =
    c.classes_atoms.ensures.value ∙ ap (λ ks. classes_atoms c.as_slice-terms.result.now ks) (c.deref.ensures.value ∙ are) ∙ ap (λ ts. classes_atoms ts (classes v.items)) c.as_slice-terms.ensures.value in
    let count : c.len-count.result ≡ length (classes v.items) = omega (arith, size, c.in_ok-classes.classes.ok.0, c.len-count.ensures) in
    let within = inv.within in
    record {
      within = omega arith;
      cases_are = cases-now c.args.groups.now c.loop-left.left v c.loop-left-test.true inv.within c.index-groups-left.is c.loop-left.cases c.loop-left.atoms c.len-count.result c.classes_atoms.result inv.cases_are inv.atoms_are count sum;
      atoms_are = atoms-now c.args.groups.now c.loop-left.left v c.loop-left-test.true inv.within c.index-groups-left.is c.loop-left.cases c.loop-left.atoms c.len-count.result c.classes_atoms.result inv.cases_are inv.atoms_are count sum;
      few_cases = c.if-cases-gt-CASES.false;
      few_atoms = c.if-atoms-gt-ATOMS.false;
    }
