-- An item that is read, step by step.
use Rattle.std.proofs.Common.{◌≡◌, ℕ, false, List, [], ◌++◌, sym, ◌∙◌, ap, Ok, Err, IsTrue}
use Rattle.cet_syntax.specs.declared.statement.Statement.{Statement}
use Rattle.cet_syntax.specs.declared.lines.Item.{Item}
use Rattle.cet_syntax.specs.declared.lines.Item.TheVariants as read
use Rattle.cet_asm.specs.declared.error.AsmKind.{AsmKind}
use Rattle.cet_asm.specs.declared.error.AsmKind.TheVariants as fault
use Rattle.cet_asm.specs.declared.placed.Spot.{Spot}
use Rattle.cet_asm.specs.declared.placed.Step.TheVariants.{States}
use Rattle.cet_asm.specs.declared.usage.Use.{Use}
use Rattle.cet_asm.specs.declared.assembly.Assembly.{Assembly}
use Rattle.cet_asm.specs.Assembled.{step_of, spot_in, table_is_known, addends_fit, uses_of}
use Rattle.cet_asm.specs.Placing.{IsTable, statement_uses, statement_at, end_of, step_end, state_of, targets_of, placed_here}
use Rattle.cet_asm.proofs.UseLemmas.{uses-of_table}
use Rattle.cet_asm.proofs.StepLemmas.{step_of-misread, step_of-unknown, step_of-long, step_of-wide, step_of-good, end-is}

pub item-misread : (a : Assembly) (item : Item) (cs : List ℕ) (kind : AsmKind) → item ≡ read.Body cs → Err kind ≡ statement_at (state_of a.cursor) cs → step_of a.placed.items (state_of a.cursor) item ≡ Err kind
item-misread a item cs kind is e = rw is (step_of-misread a.placed.items (state_of a.cursor) cs kind (sym e))

pub item-unknown : (a : Assembly) (item : Item) (cs : List ℕ) (st : Statement) (kind : AsmKind) → item ≡ read.Body cs → Ok st ≡ statement_at (state_of a.cursor) cs → table_is_known a.placed.items (state_of a.cursor) st ≡ false → kind ≡ fault.Operand → step_of a.placed.items (state_of a.cursor) item ≡ Err kind
item-unknown a item cs st kind is e unknown k = rw is (step_of-unknown a.placed.items (state_of a.cursor) cs st (sym e) unknown ∙ ap Err (sym k))

pub item-long : (a : Assembly) (item : Item) (cs : List ℕ) (st : Statement) (kind : AsmKind) (offset : ℕ) → item ≡ read.Body cs → Ok st ≡ statement_at (state_of a.cursor) cs → IsTrue (table_is_known a.placed.items (state_of a.cursor) st) → offset ≡ (spot_in (state_of a.cursor)).offset → end_of offset st ≡ Err kind → step_of a.placed.items (state_of a.cursor) item ≡ Err kind
item-long a item cs st kind offset is e known o long = rw is (step_of-long a.placed.items (state_of a.cursor) cs st kind (sym e) known (ap (λ n. end_of n st) (sym o) ∙ long))

pub item-wide : (a : Assembly) (item : Item) (cs : List ℕ) (st : Statement) (kind : AsmKind) (offset end table : ℕ) (spot : Spot) → item ≡ read.Body cs → Ok st ≡ statement_at (state_of a.cursor) cs → IsTrue (table_is_known a.placed.items (state_of a.cursor) st) → offset ≡ (spot_in (state_of a.cursor)).offset → end_of offset st ≡ Ok end → IsTable (targets_of a) (state_of a.cursor).section st table → spot ≡ spot_in (state_of a.cursor) → (kind ≡ fault.Range) × (addends_fit (statement_uses table spot st) ≡ false) → step_of a.placed.items (state_of a.cursor) item ≡ Err kind
item-wide a item cs st kind offset end table spot is e known o ends value here wide =
    rw is (step_of-wide a.placed.items (state_of a.cursor) cs st end (sym e) known (ap (λ n. end_of n st) (sym o) ∙ ends)
    (ap addends_fit (uses-of_table (targets_of a) (spot_in (state_of a.cursor)) st table value) ∙ ap (λ s. addends_fit (statement_uses table s st)) (sym here) ∙ wide.1) ∙ ap Err (sym wide.0))

pub item-step : (a : Assembly) (item : Item) (cs : List ℕ) (st : Statement) (offset end table : ℕ) (spot : Spot) → item ≡ read.Body cs → Ok st ≡ statement_at (state_of a.cursor) cs → IsTrue (table_is_known a.placed.items (state_of a.cursor) st) → offset ≡ (spot_in (state_of a.cursor)).offset → end_of offset st ≡ Ok end → IsTable (targets_of a) (state_of a.cursor).section st table → spot ≡ spot_in (state_of a.cursor) → IsTrue (addends_fit (statement_uses table spot st)) → step_of a.placed.items (state_of a.cursor) item ≡ Ok (States st)
item-step a item cs st offset end table spot is e known o ends value here fit =
    rw is (step_of-good a.placed.items (state_of a.cursor) cs st end (sym e) known (ap (λ n. end_of n st) (sym o) ∙ ends)
    (ap addends_fit (uses-of_table (targets_of a) (spot_in (state_of a.cursor)) st table value) ∙ ap (λ s. addends_fit (statement_uses table s st)) (sym here) ∙ fit))

pub item-end : (a : Assembly) (st : Statement) (offset end : ℕ) → offset ≡ (spot_in (state_of a.cursor)).offset → end_of offset st ≡ Ok end → end ≡ step_end (state_of a.cursor) (States st)
item-end a st offset end o ends = end-is (step_end (state_of a.cursor) (States st)) end (ap (λ n. end_of n st) (sym o) ∙ ends)

pub item-uses : (a : Assembly) (st : Statement) (table : ℕ) (spot : Spot) (old new : List Use) → IsTable (targets_of a) (state_of a.cursor).section st table → spot ≡ spot_in (state_of a.cursor) → old ≡ [] → new ≡ old ++ statement_uses table spot st → (line : ℕ) → new ≡ uses_of (targets_of a) (placed_here (state_of a.cursor) line (States st))
item-uses a st table spot old new value here empty adds line =
    adds ∙ ap (λ us. us ++ statement_uses table spot st) empty ∙ ap (λ s. statement_uses table s st) here ∙ sym (uses-of_table (targets_of a) (spot_in (state_of a.cursor)) st table value)
