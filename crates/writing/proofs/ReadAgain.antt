-- What is read can be written, and is then read again: specs/ReadBack.antt. Assumes nothing.
use Rattle.writing.specs.ReadBack.{ReadAgain}
use Rattle.writing.proofs.ReadBack.{read_back}
use Rattle.writing.proofs.WellRead.{reads-well-formed}
use Rattle.writing.proofs.ReadSize.{reads-few}

pub read_again : ReadAgain
read_again bytes below f e = read_back f (reads-well-formed bytes below f e) (reads-few bytes f e)
