mod InRange
