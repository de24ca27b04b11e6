mod Follow
