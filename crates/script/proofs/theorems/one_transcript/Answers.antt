use Rattle.script.proofs.OneTranscript.{one_transcript}
use Rattle.script.proofs.theorems.one_transcript.Goals as goal

pub returns : goal.returns
returns c = one_transcript
