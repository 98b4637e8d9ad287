-- What is written through an `Out`.
use Rattle.std.specs.Prelude.{◌≡◌, ℕ, List, Option}
use Rattle.sml_text.specs.Written.{Told, StaysDue}
use Rattle.sml_writer.specs.declared.Out.{Out}

-- a prefix of `bs` was written, and all of it unless a write failed, which is due to a refusal; the writer is the same
pub record Tells {A : Type 0} (contents : A → Option (List ℕ)) (refuses : A → Type 0) (old new : Out A)
    (bs : List ℕ) : Type 0 where
  pub told : Told (contents old.writer.now) old.failed (contents new.writer.now) new.failed bs
  pub due : StaysDue (refuses old.writer.now) old.failed (refuses new.writer.now) new.failed
  pub same : new.writer.ghost_name ≡ old.writer.ghost_name
