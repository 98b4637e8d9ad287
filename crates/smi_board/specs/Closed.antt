-- What a board that was closed shows.
use Rattle.std.specs.Prelude.{◌≡◌, ◌<◌, ◌++◌, ℕ, List, [], length, slice_get, Some}
use Rattle.sml_domain.specs.Domain.{Domain}
use Rattle.smi_journal_entries.specs.declared.entry.Entry.{Entry}
use Rattle.smi_journal_entries.specs.declared.entry.Sender.{Sender}
use Rattle.smi_journal_entries.specs.declared.entry.Sender.TheVariants.{Object, Operator}
use Rattle.smi_journal_entries.specs.Words.{posts_between, starts_at}
use Rattle.smi_meaning.specs.Legal.{IsLegal}
use Rattle.smi_mail.specs.Letters.{letters_from, requests_in}
use Rattle.smi_mail.specs.Mails.{OperatorSide, session_sent}
use Rattle.smi_mail.specs.Drains.{Final, IsNoSession, final_at, final_sent}
use Rattle.smi_journal_entries.specs.declared.journal.Format.TheVariants.{Two}

-- The journal is legal. At each object its starts are what was taken, and its accepted posts are what objects sent.
-- What a session sent there is what its end says, and a session that does not exist sent nothing. What each sender sent
-- is what was taken of it, followed by what is left of it.
pub record IsClosed (d : Domain) (J : List Entry) (ends : List OperatorSide) (drained : List Final) : Type 0 where
  pub legal : IsLegal Two d J
  pub starts : (o : ℕ) → o < length d.objects → starts_at o J ≡ requests_in (final_at drained o).taken
  pub posts : (a o : ℕ) → a < length d.objects → o < length d.objects →
      posts_between a o J ≡ requests_in (final_sent drained (Object a) o)
  pub sessions : (k o : ℕ) (e : OperatorSide) → slice_get ends k ≡ Some e → o < length d.objects →
      final_sent drained (Operator e.session) o ≡ session_sent e o
  pub nobody : (k o : ℕ) → IsNoSession (length ends) k → o < length d.objects → final_sent drained (Operator k) o ≡ []
  pub settled : (s : Sender) (o : ℕ) → o < length d.objects →
      final_sent drained s o ≡ letters_from s (final_at drained o).taken ++ letters_from s (final_at drained o).left
