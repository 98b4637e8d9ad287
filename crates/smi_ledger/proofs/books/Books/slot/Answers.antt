-- The slot of an object says what the journal says of it.
use Rattle.std.proofs.Common.{subst}
use Rattle.smi_ledger.specs.Views.{BooksView}
use Rattle.smi_ledger.specs.Books.{Says}
use Rattle.smi_ledger.proofs.Booked.{booked_at}
use Rattle.smi_ledger.proofs.books.Books.slot.Goals as goal

pub returns : goal.returns
returns c =
    let f = booked_at _ _ _ _ _ _ _ c.args.o _ _ c.self.invariant c.self.view_is c.requires c.get.ensures c.index.ensures in
    subst (λ (v : BooksView). Says v.domain v.journal c.args.o c.index.result.now) c.self.view_is f.says
