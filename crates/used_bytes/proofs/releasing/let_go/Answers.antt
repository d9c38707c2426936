-- `let_go`: what `mark_chain` and `note_chain` answer of the chain.
use Rattle.used_bytes.proofs.releasing.let_go.Goals as goal

pub returns : goal.returns
returns c = λ bound base w first ts k.
    record { follows = c.note_chain.ensures bound base w first ts k; marks = c.mark_chain.ensures first ts k }
