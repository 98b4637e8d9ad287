-- Several texts as one.
use Rattle.std.proofs.Common.{◌≡◌, ◌∙◌, refl, ℕ, List, [], ◌++◌, Option}
use Rattle.std.proofs.KnownBytes.{Appends-nil}
use Rattle.sml_text.proofs.Writes.{told_both, told_as}
use Rattle.sml_writer.specs.declared.Out.{Out}
use Rattle.sml_writer.specs.Tells.{Tells}

module _ {A : Type 0} {contents : A → Option (List ℕ)} {refuses : A → Type 0} where
  -- one text behind the other
  pub then_tells : {a b c : Out A} {bs cs : List ℕ} → Tells contents refuses a b bs → Tells contents refuses b c cs
      → Tells contents refuses a c (bs ++ cs)
  then_tells {bs = bs} {cs = cs} x y = record {
    told = told_both _ _ _ _ _ _ bs cs x.told y.told;
    due = λ h. y.due (x.due h);
    same = y.same ∙ x.same;
  }

  -- the same text, said otherwise
  pub tells_again : {a b : Out A} {bs cs : List ℕ} → Tells contents refuses a b bs → bs ≡ cs
      → Tells contents refuses a b cs
  tells_again {bs = bs} {cs = cs} x e = record {
    told = told_as _ _ _ _ bs cs x.told e;
    due = x.due;
    same = x.same;
  }

  -- nothing is written
  pub tells_nothing : {a : Out A} → Tells contents refuses a a []
  tells_nothing {a} = record {
    told = record {
      front = [];
      rest = [];
      split = refl;
      appends = Appends-nil (contents a.writer.now);
      whole = λ e. refl;
      stays = λ e. (e, refl);
    };
    due = λ h. h;
    same = refl;
  }
