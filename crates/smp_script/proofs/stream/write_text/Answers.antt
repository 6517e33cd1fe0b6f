use Rattle.smp_script.proofs.Names.{◌∙◌, take_rest, take-add}
use Rattle.smp_script.proofs.Reader.Streams.{appends_both, took_some}
use Rattle.smp_script.proofs.stream.write_text.Goals as goal

pub pieces-preserved : goal.pieces-preserved
pieces-preserved g c = record {
  kept = c.in-Ok.ensures.failed ∙ (took_some _ _ c.in-Ok.n c.if-n-gt0.true ∙ c.pieces.invariant.kept);
  written = rw (take-add c.pieces.at c.in-Ok.n c.args.text.now)
      (appends_both _ _ _ _ _ c.pieces.invariant.written (rw (take_rest c.args.text.now c.pieces.at) at c.in-Ok.ensures.bytes));
}
