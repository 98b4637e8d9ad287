-- Ends of all mailboxes, side by side.
use Rattle.std.specs.Prelude.{◌≡◌, length}
use Rattle.smi_mail.specs.Rule.{add_known, add_session, new_session}
use Rattle.smi_mail.specs.Sides.{BoardSide, SessionSide}

abbrev pub session_side_of : BoardSide → SessionSide
session_side_of b = record { mailbox = b.mailbox; seen = new_session b.seen }

abbrev pub more_side : BoardSide → BoardSide
more_side b = record b { seen = add_session b.seen }

abbrev pub joined_side : BoardSide → SessionSide → BoardSide
joined_side b e = record b { seen = add_known b.seen e.seen.sent }

-- a session's end may join the board's
abbrev pub MayJoin : BoardSide → SessionSide → Type 0
MayJoin b e = (e.mailbox ≡ b.mailbox) × (e.seen.session ≡ length b.seen.known)
