use mathlib.Core.Path.{◌≡◌, sym, ap, ◌∙◌}
use Prim.Native.Nat.{ℕ, ◌+◌, ◌-◌}
use native.Mathlib.Omega.{arith}
use borrow.Author.Tests.{eqb-true, eqb-false}
use Rattle.wire.specs.Table.{first_fault, faults}
use Rattle.wire.specs.declared.table.Fault.TheVariants.{Length}
use Rattle.wire.proofs.Walks.{fault_empty, fault_version, fault_start, faults_end, faults_broken, faults_record, first_faulty, passed_on, faults_more, faults_done}
use Rattle.wire.proofs.table.check.Goals as goal

pub returns-in_default : goal.returns-in_default
returns-in_default c = let a = c.args in sym (fault_empty a.image a.table.now (rw c.in_default.is at c.split_first.ensures.cases))

pub returns-then-version-ne1 : goal.returns-then-version-ne1
returns-then-version-ne1 c = rw c.in-Some.ensures.cases.0 (sym (fault_version c.args.image c.in-Some.behind.now c.if-version-ne1.true))

pub loop-init : goal.loop-init
loop-init c = rw c.in-Some.ensures.cases.0 (fault_start c.args.image c.in-Some.behind.now c.if-version-ne1.false)

pub returns-in_err-e : goal.returns-in_err-e
returns-in_err-e c =
    passed_on c.from_residual.result Length c.from_residual.ensures.1
    ∙ sym (c.loop.invariant ∙ faults_broken c.args.image _ c.loop.rest.now (sym c.in_err-e.ensures) (omega arith))

pub returns-in_default-2 : goal.returns-in_default-2
returns-in_default-2 c =
    sym (c.loop.invariant ∙ faults_end c.args.image _ c.loop.rest.now (sym (rw c.in_default-2.is at c.in_ok-e.ensures)) (omega arith))

pub returns-in_err-record_fault : goal.returns-in_err-record_fault
returns-in_err-record_fault c =
    let n = c.args.image in
    let f = c.in_err-record_fault.field-0.0 in
    let later = faults n (32 - c.loop.counter - 1) c.in-Some-2.behind.now in
    let first = ap (λ (k : ℕ). first_fault k later) (sym c.record_fault.ensures) ∙ first_faulty c.record_fault.result f later c.in_err-record_fault.was in
    passed_on c.from_residual-in_err-record_fault.result f c.from_residual-in_err-record_fault.ensures.1
    ∙ sym
    (c.loop.invariant ∙ faults_record n _ c.loop.rest.now (sym (rw c.in-Some-2.is at c.in_ok-e.ensures)) (omega arith) ∙ first)

pub loop-preserved : goal.loop-preserved
loop-preserved c =
    let left : 32 - (c.loop.counter + 1) ≡ 32 - c.loop.counter - 1 = omega arith in
    c.loop.invariant ∙ faults_record c.args.image _ c.loop.rest.now (sym (rw c.in-Some-2.is at c.in_ok-e.ensures)) (omega arith)
    ∙ rw (sym c.record_fault.ensures, c.in_ok-record_fault.was, left)

pub returns-then-is_empty : goal.returns-then-is_empty
returns-then-is_empty c =
    let n = c.args.image in
    sym (c.loop.invariant ∙ faults_done n _ c.loop.rest.now (omega arith) (eqb-true _ _ (sym c.is_empty.ensures ∙ c.if-is_empty.true)))

pub returns-else-is_empty : goal.returns-else-is_empty
returns-else-is_empty c =
    let n = c.args.image in
    let some = eqb-false _ _ (sym c.is_empty.ensures ∙ c.if-is_empty.false) in
    sym (c.loop.invariant ∙ faults_more n _ c.loop.rest.now (omega arith) (omega arith))
