use Rattle.session_boards.proofs.OneSession as proof
use Rattle.session_boards.proofs.laws.one_session.Goals as goal

pub returns : goal.returns
returns c = proof.one_session
