use Rattle.std.proofs.Common.{◌≡◌, length, map, take}
use Rattle.smi_request_fates.specs.Kept.{FatesTell, watched_request}
use Rattle.smi_request_fates.proofs.kept.Fates.add_from.Given as goal

abbrev pub invariant-loop-place : goal.invariant-loop-place
invariant-loop-place l =
    FatesTell l.domain (take l.place l.entries) l.self × (length l.self.counts ≡ length l.fn.self.counts)
    × (map watched_request l.self.watched ≡ map watched_request l.fn.self.watched) × (l.self.room ≡ l.fn.self.room)
