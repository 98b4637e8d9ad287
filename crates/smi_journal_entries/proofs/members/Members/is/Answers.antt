-- Sets that were never changed are the same where they are as many.
use Rattle.std.proofs.Common.{◌≡◌, ◌∙◌, Vec, Global, ap, length, sym, subst, refl}
use Rattle.std.specs.Prelude.{◌↔◌, IsTrue, nat_eq}
use Rattle.smi_journal_entries.specs.declared.members.Kept.{Kept}
use Rattle.smi_journal_entries.specs.Sets.{MayBeUnchanged}
use Rattle.smi_journal_entries.proofs.Unchanged.{same_where_long}
use Rattle.smi_journal_entries.proofs.members.Members.is.Goals as goal

pub returns-then-other : goal.returns-then-other
returns-then-other c =
    let x = c.as_slice-sets.result.now in
    let y = c.as_slice-others.result.now in
    let own = c.as_slice-sets.ensures.value ∙ ap (λ (v : Vec Kept Global). v.items) c.deref.ensures in
    let its = c.as_slice-others.ensures.value ∙ ap (λ (v : Vec Kept Global). v.items) c.deref-2.ensures in
    let same = same_where_long c.self.inside.is_declared c.other.inside.is_declared x y
    (subst (MayBeUnchanged c.self.inside.is_declared) (sym own) c.self.invariant)
    (subst (MayBeUnchanged c.other.inside.is_declared) (sym its) c.other.invariant)
    c.if-self.true c.if-other.true (nat_eq (length x) (length y)) refl in
    subst (λ s. IsTrue (nat_eq (length x) (length y)) ↔ (s ≡ c.args.other.now)) (own ∙ c.self.view_is)
    (subst (λ s. IsTrue (nat_eq (length x) (length y)) ↔ (x ≡ s)) (its ∙ c.other.view_is) same)
