-- The table's fault comes before the window's.
use borrow.Author.Rules.{rules}
use Rattle.server.proofs.Refusals.{fault_told}
use Rattle.server.proofs.ranges.loan_fault.Goals as goal

pub returns-in_err-check-in-Shaking : goal.returns-in_err-check-in-Shaking
returns-in_err-check-in-Shaking c =
    let e = c.in_err-check-in-Shaking in
    rw c.in-Shaking.is (fault_told c.from_residual.result e.field-0.0 _ (search rules) e.ensures)
