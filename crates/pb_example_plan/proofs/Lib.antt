mod TriedPicks
