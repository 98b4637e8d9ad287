-- Each object before the turn's has its first track.
use Rattle.std.proofs.Common.{◌≡◌, ◌<◌, ℕ, length}
use Rattle.sml_domain.specs.Lookups.{class_params_at}
use Rattle.smi_audit.specs.Tracks.{first_track, track_at}
use Rattle.smi_audit.proofs.judge.first_tracks.Given as goal

abbrev pub invariant-loop-o : goal.invariant-loop-o
invariant-loop-o l = record {
  count : length l.tracks.items ≡ l.o;
  objects : l.objects ≡ length l.domain.objects;
  each : (x : ℕ) → x < l.o → track_at l.tracks.items x ≡ first_track (class_params_at l.domain x) l.objects;
}
