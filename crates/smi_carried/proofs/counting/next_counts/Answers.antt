use Rattle.smi_carried.proofs.counting.next_counts.Goals as goal

pub returns : goal.returns
returns c = record {
  between = c.next_count-first.result.1.now;
  started = c.next_count-first.ensures;
  ended = c.next_count-second.ensures;
}
